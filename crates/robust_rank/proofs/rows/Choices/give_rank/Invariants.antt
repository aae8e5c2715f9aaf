use Rattle.robust_rank.proofs.rows.Choices.give_rank.Given as goal

abbrev pub ghost-rank_of : goal.ghost-rank_of
ghost-rank_of g a = g.spans
