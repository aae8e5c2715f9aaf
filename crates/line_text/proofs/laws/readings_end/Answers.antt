use Rattle.line_text.proofs.Ending.{within, beyond}
use Rattle.line_text.proofs.laws.readings_end.Goals as goal

pub returns : goal.returns
returns g c = record { within = within g.S.Source.left g.S.Source.faults; beyond = beyond g.S.Source.left g.S.Source.faults }
