use Rattle.robust_rank.proofs.rows.Rows.rate_of_only.Given as goal

abbrev pub ghost-rate_of_single : goal.ghost-rate_of_single
ghost-rate_of_single g a = g.spans

abbrev pub ghost-rate_of_pair : goal.ghost-rate_of_pair
ghost-rate_of_pair g a = g.spans
