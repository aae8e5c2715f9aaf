use Rattle.robust_rank.proofs.rows.Rows.only_leads.Given as goal

abbrev pub ghost-single_leads : goal.ghost-single_leads
ghost-single_leads g a = g.spans

abbrev pub ghost-pair_leads : goal.ghost-pair_leads
ghost-pair_leads g a = g.spans
