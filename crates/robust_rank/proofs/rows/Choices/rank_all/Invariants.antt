use Rattle.robust_rank.proofs.rows.Choices.rank_all.Given as goal

abbrev pub ghost-rank_in_order : goal.ghost-rank_in_order
ghost-rank_in_order g a = g.spans

abbrev pub ghost-rank_by_stages : goal.ghost-rank_by_stages
ghost-rank_by_stages g a = g.spans
