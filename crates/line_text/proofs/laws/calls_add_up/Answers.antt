use Rattle.line_text.proofs.Following.{begins, goes}
use Rattle.line_text.proofs.laws.calls_add_up.Goals as goal

pub returns : goal.returns
returns g c = record { begins = begins g.S.Source.left g.S.Source.faults; goes = goes g.S.Source.left g.S.Source.faults }
