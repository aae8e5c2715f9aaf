use Rattle.robust_rank.proofs.rows.Rows.rate_of_row.Given as goal

abbrev pub ghost-least_into : goal.ghost-least_into
ghost-least_into g a = g.spans
