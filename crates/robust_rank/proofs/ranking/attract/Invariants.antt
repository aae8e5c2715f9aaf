use Rattle.robust_rank.proofs.ranking.attract.Given as goal

abbrev pub ghost-rank_all : goal.ghost-rank_all
ghost-rank_all g a = g.spans

abbrev pub ghost-choose_all : goal.ghost-choose_all
ghost-choose_all g a = g.spans
