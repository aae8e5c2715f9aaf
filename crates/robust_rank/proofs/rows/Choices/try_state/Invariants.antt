use Rattle.robust_rank.proofs.rows.Choices.try_state.Given as goal

abbrev pub ghost-leading_choice : goal.ghost-leading_choice
ghost-leading_choice g a = g.start.spans
