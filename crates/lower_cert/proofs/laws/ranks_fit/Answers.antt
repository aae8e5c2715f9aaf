use Rattle.lower_cert.proofs.Heights.{height_fits}
use Rattle.lower_cert.proofs.Renumbering as renumbering
use Rattle.lower_cert.proofs.laws.ranks_fit.Goals as goal

pub returns : goal.returns
returns c = record { any = renumbering.ranks_fit; greatest = height_fits }
