use Rattle.std.proofs.Common.{None, refl}
use Rattle.lift_cost.specs.Decided.{asked}
use Rattle.plift_top.specs.Cost.{cost_line, cost_lines}
use Rattle.plift_top.proofs.HeadedTexts.{head_parts}
use Rattle.plift_top.proofs.cost.write_cost_head.Goals as goal

pub returns-in_err-write_all : goal.returns-in_err-write_all
returns-in_err-write_all g c =
    rw (head_parts cost_line c.args.question.now.case.now None (cost_lines (asked c.args.question.now)) c.args.question.now.case.now.model refl) (c.writes_in_turn.ensures.stopped _ _ _ _ _ _ c.from_residual.ensures.0 c.in_err-write_all.ensures.wrote)

pub returns-in_err-write_model : goal.returns-in_err-write_model
returns-in_err-write_model g c =
    rw (head_parts cost_line c.args.question.now.case.now None (cost_lines (asked c.args.question.now)) c.model.result.now c.model.ensures.value)
    (c.writes_in_turn.ensures.both _ _ _ _ _ _ c.in_ok-write_all.ensures.wrote (c.writes_in_turn.ensures.stopped _ _ _ _ _ _ c.from_residual-in_err-write_model.ensures.0 c.in_err-write_model.ensures))

pub returns-in_err-write_asked : goal.returns-in_err-write_asked
returns-in_err-write_asked g c =
    rw (head_parts cost_line c.args.question.now.case.now None (cost_lines (asked c.args.question.now)) c.model.result.now c.model.ensures.value)
    (c.writes_in_turn.ensures.both _ _ _ _ _ _ c.in_ok-write_all.ensures.wrote (c.writes_in_turn.ensures.both _ _ _ _ _ _ c.in_ok-write_model.ensures (c.writes_in_turn.ensures.stopped _ _ _ _ _ _ c.from_residual-in_err-write_asked.ensures.0 c.in_err-write_asked.ensures)))

pub returns : goal.returns
returns g c =
    rw (head_parts cost_line c.args.question.now.case.now None (cost_lines (asked c.args.question.now)) c.model.result.now c.model.ensures.value)
    (c.writes_in_turn.ensures.both _ _ _ _ _ _ c.in_ok-write_all.ensures.wrote (c.writes_in_turn.ensures.both _ _ _ _ _ _ c.in_ok-write_model.ensures (c.writes_in_turn.ensures.both _ _ _ _ _ _ c.in_ok-write_asked.ensures c.write_fineness.ensures)))
