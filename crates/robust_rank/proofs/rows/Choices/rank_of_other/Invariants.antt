use Rattle.robust_rank.proofs.rows.Choices.rank_of_other.Given as goal

abbrev pub ghost-rank_of_single : goal.ghost-rank_of_single
ghost-rank_of_single g a = g.spans

abbrev pub ghost-rank_of_pair : goal.ghost-rank_of_pair
ghost-rank_of_pair g a = g.spans

abbrev pub ghost-rank_by_choices : goal.ghost-rank_by_choices
ghost-rank_by_choices g a = g.spans
