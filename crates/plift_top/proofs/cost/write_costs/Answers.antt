use Rattle.std.proofs.Common.{codes}
use Rattle.plift_top.specs.Cost.{cost_word}
use Rattle.plift_top.proofs.CostTexts.{line_pieces}
use Rattle.plift_top.proofs.cost.write_costs.Goals as goal

pub returns-in_err-write_all : goal.returns-in_err-write_all
returns-in_err-write_all g c =
    rw (line_pieces cost_word (codes "cost") c.args.costs.now) (c.writes_in_turn.ensures.stopped _ _ _ _ _ _ c.from_residual.ensures.0 c.in_err-write_all.ensures.wrote)

pub returns-in_err-write_each_cost : goal.returns-in_err-write_each_cost
returns-in_err-write_each_cost g c =
    rw (line_pieces cost_word (codes "cost") c.args.costs.now)
    (c.writes_in_turn.ensures.both _ _ _ _ _ _ c.in_ok-write_all.ensures.wrote (c.writes_in_turn.ensures.stopped _ _ _ _ _ _ c.from_residual-in_err-write_each_cost.ensures.0 c.in_err-write_each_cost.ensures))

pub returns : goal.returns
returns g c =
    rw (line_pieces cost_word (codes "cost") c.args.costs.now)
    (c.writes_in_turn.ensures.both _ _ _ _ _ _ c.in_ok-write_all.ensures.wrote (c.writes_in_turn.ensures.both _ _ _ _ _ _ c.in_ok-write_each_cost.ensures c.write_all-2.ensures.wrote))
