use Rattle.lift_dual.proofs.ranks.leads_below.Given as goal

abbrev pub ghost-least_into : goal.ghost-least_into
ghost-least_into g a = g.spans
