use Rattle.lift_dual.proofs.one.is_satisfied.Given as goal

abbrev pub ghost-is_capped : goal.ghost-is_capped
ghost-is_capped g a = g.spans
