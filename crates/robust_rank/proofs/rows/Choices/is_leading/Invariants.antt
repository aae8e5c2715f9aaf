use Rattle.robust_rank.proofs.rows.Choices.is_leading.Given as goal

abbrev pub ghost-leads_below : goal.ghost-leads_below
ghost-leads_below g a = g.spans
