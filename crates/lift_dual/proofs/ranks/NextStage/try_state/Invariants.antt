use Rattle.lift_dual.proofs.ranks.NextStage.try_state.Given as goal

abbrev pub ghost-all_lead_below : goal.ghost-all_lead_below
ghost-all_lead_below g a = g.start.spans
