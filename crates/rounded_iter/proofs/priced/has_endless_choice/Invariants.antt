use Rattle.rounded_iter.proofs.priced.has_endless_choice.Given as goal

abbrev pub ghost-is_endless : goal.ghost-is_endless
ghost-is_endless g a = g.spans
