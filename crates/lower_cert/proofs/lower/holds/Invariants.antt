use Rattle.lower_cert.proofs.lower.holds.Given as goal

abbrev pub ghost-least : goal.ghost-least
ghost-least g a = g.spans
