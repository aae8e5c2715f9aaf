use Rattle.robust_rank.proofs.rows.Choices.rank_of.Given as goal

abbrev pub ghost-rank_of_other : goal.ghost-rank_of_other
ghost-rank_of_other g a = g.spans
