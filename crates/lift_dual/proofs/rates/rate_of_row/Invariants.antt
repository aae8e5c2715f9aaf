use Rattle.lift_dual.proofs.rates.rate_of_row.Given as goal

abbrev pub ghost-least_into : goal.ghost-least_into
ghost-least_into g a = g.spans
