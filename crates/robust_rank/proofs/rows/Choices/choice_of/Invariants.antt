use Rattle.robust_rank.proofs.rows.Choices.choice_of.Given as goal

abbrev pub ghost-known_choice : goal.ghost-known_choice
ghost-known_choice g a = g.spans
