use Rattle.std.proofs.Common.{None, refl}
use Rattle.plift_top.specs.Bounded.{bounded_line, within_lines}
use Rattle.plift_top.proofs.HeadedTexts.{head_parts}
use Rattle.plift_top.proofs.bounded.write_bounded_head.Goals as goal

pub returns-in_err-write_all : goal.returns-in_err-write_all
returns-in_err-write_all g c =
    rw (head_parts bounded_line c.args.case.now None (within_lines c.args.bound c.args.steps) c.args.case.now.model refl) (c.writes_in_turn.ensures.stopped _ _ _ _ _ _ c.from_residual.ensures.0 c.in_err-write_all.ensures.wrote)

pub returns-in_err-write_model : goal.returns-in_err-write_model
returns-in_err-write_model g c =
    rw (head_parts bounded_line c.args.case.now None (within_lines c.args.bound c.args.steps) c.model.result.now c.model.ensures.value)
    (c.writes_in_turn.ensures.both _ _ _ _ _ _ c.in_ok-write_all.ensures.wrote (c.writes_in_turn.ensures.stopped _ _ _ _ _ _ c.from_residual-in_err-write_model.ensures.0 c.in_err-write_model.ensures))

pub returns-in_err-write_within : goal.returns-in_err-write_within
returns-in_err-write_within g c =
    rw (head_parts bounded_line c.args.case.now None (within_lines c.args.bound c.args.steps) c.model.result.now c.model.ensures.value)
    (c.writes_in_turn.ensures.both _ _ _ _ _ _ c.in_ok-write_all.ensures.wrote (c.writes_in_turn.ensures.both _ _ _ _ _ _ c.in_ok-write_model.ensures (c.writes_in_turn.ensures.stopped _ _ _ _ _ _ c.from_residual-in_err-write_within.ensures.0 c.in_err-write_within.ensures)))

pub returns : goal.returns
returns g c =
    rw (head_parts bounded_line c.args.case.now None (within_lines c.args.bound c.args.steps) c.model.result.now c.model.ensures.value)
    (c.writes_in_turn.ensures.both _ _ _ _ _ _ c.in_ok-write_all.ensures.wrote (c.writes_in_turn.ensures.both _ _ _ _ _ _ c.in_ok-write_model.ensures (c.writes_in_turn.ensures.both _ _ _ _ _ _ c.in_ok-write_within.ensures c.write_fineness.ensures)))
