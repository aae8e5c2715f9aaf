use Rattle.robust_rank.proofs.rows.Choices.rank_of_pair.Given as goal

abbrev pub ghost-rank_between : goal.ghost-rank_between
ghost-rank_between g a = g.spans
