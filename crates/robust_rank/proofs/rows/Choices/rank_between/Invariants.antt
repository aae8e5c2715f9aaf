use Rattle.robust_rank.proofs.rows.Choices.rank_between.Given as goal

abbrev pub ghost-pair_leads : goal.ghost-pair_leads
ghost-pair_leads g a = g.spans

abbrev pub ghost-rank_by_choices : goal.ghost-rank_by_choices
ghost-rank_by_choices g a = g.spans
