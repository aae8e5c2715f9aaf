use Rattle.std.proofs.Common.{arith}
use Rattle.lower_cert.proofs.Settling.{all_marks}
use Rattle.lower_cert.proofs.greatest.height.Goals as goal

pub returns-clause-marks : goal.returns-clause-marks
returns-clause-marks c = all_marks c.args.ranks.now (λ i. omega (arith, (c.type_inv.ranks i).fits))
