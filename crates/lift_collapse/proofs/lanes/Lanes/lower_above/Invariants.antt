use Rattle.lift_collapse.proofs.lanes.Lanes.lower_above.Given as goal

abbrev pub ghost-greatest_reject_above : goal.ghost-greatest_reject_above
ghost-greatest_reject_above g a = g.spans

abbrev pub ghost-lower_unranked : goal.ghost-lower_unranked
ghost-lower_unranked g a = g.spans
