use Rattle.rounded_iter.proofs.priced.has_endless.Given as goal

abbrev pub ghost-has_endless_choice : goal.ghost-has_endless_choice
ghost-has_endless_choice g a = g.spans
