use Rattle.std.proofs.Common.{arith}
use Rattle.plift_top.proofs.CostTexts.{next_cost}
use Rattle.plift_top.proofs.cost.write_each_cost.Goals as goal

pub returns-in_err-write_cost : goal.returns-in_err-write_cost
returns-in_err-write_cost g c =
    c.writes_in_turn.ensures.stops _ _ _ _ _ _ _ _ _ c.from_residual.ensures.0 c.loop-s.invariant (next_cost c.args.costs.now c.loop-s.s c.get.result (omega arith) c.get.ensures.cost) c.in_err-write_cost.ensures

pub loop-s-preserved : goal.loop-s-preserved
loop-s-preserved g c =
    c.writes_in_turn.ensures.next _ _ _ _ _ _ _ c.loop-s.invariant (next_cost c.args.costs.now c.loop-s.s c.get.result (omega arith) c.get.ensures.cost) c.in_ok-write_cost.ensures
