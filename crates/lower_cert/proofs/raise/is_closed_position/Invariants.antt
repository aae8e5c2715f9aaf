use Rattle.lower_cert.proofs.raise.is_closed_position.Given as goal

abbrev pub ghost-is_closed_state : goal.ghost-is_closed_state
ghost-is_closed_state g a = g.spans
