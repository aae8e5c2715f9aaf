use Rattle.lift_bounded.proofs.decision.decide_in.Given as goal

abbrev pub ghost-least_uppers : goal.ghost-least_uppers
ghost-least_uppers g a = g.spans

abbrev pub ghost-greatest_lowers : goal.ghost-greatest_lowers
ghost-greatest_lowers g a = g.spans
