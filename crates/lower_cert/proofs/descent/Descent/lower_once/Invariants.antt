use Rattle.lower_cert.specs.Lowering.{from_top}
use Rattle.lower_cert.proofs.descent.Descent.lower_once.Given as goal

abbrev pub ghost-rank_states : goal.ghost-rank_states
ghost-rank_states g a = g.spans

abbrev pub ghost-lower_level : goal.ghost-lower_level
ghost-lower_level g a = g.spans

abbrev pub ghost-settle : goal.ghost-settle
ghost-settle g a = from_top a.self.now.rows.now.case g.spans

abbrev pub ghost-lower_to_exit : goal.ghost-lower_to_exit
ghost-lower_to_exit g a = g.spans
