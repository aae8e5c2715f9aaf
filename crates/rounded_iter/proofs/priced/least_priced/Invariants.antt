use Rattle.rounded_iter.proofs.priced.least_priced.Given as goal

abbrev pub ghost-least_priced_within : goal.ghost-least_priced_within
ghost-least_priced_within g a = g.spans
