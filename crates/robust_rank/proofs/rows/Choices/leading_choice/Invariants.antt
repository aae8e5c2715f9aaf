use Rattle.robust_rank.proofs.rows.Choices.leading_choice.Given as goal

abbrev pub ghost-only_leads : goal.ghost-only_leads
ghost-only_leads g a = g.spans

abbrev pub ghost-leading_of_choices : goal.ghost-leading_of_choices
ghost-leading_of_choices g a = g.spans
