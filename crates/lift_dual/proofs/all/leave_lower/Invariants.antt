use Rattle.lift_dual.proofs.all.leave_lower.Given as goal

abbrev pub ghost-rate_all : goal.ghost-rate_all
ghost-rate_all g a = g.spans
