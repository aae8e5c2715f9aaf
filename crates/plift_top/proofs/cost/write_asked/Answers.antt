use Rattle.plift_top.proofs.cost.write_asked.Goals as goal

pub returns-in_err-write_costs : goal.returns-in_err-write_costs
returns-in_err-write_costs g c = c.writes_in_turn.ensures.stopped _ _ _ _ _ _ c.from_residual.ensures.0 c.in_err-write_costs.ensures

pub returns : goal.returns
returns g c = c.writes_in_turn.ensures.both _ _ _ _ _ _ c.in_ok-write_costs.ensures c.write_limits.ensures
