use Rattle.plift_top.proofs.HeadedTexts.{fineness_parts}
use Rattle.plift_top.proofs.heads.write_fineness.Goals as goal

pub returns-in_err-write_precision : goal.returns-in_err-write_precision
returns-in_err-write_precision g c =
    rw (fineness_parts c.args.case.now c.args.from) (c.writes_in_turn.ensures.stopped _ _ _ _ _ _ c.from_residual.ensures.0 c.in_err-write_precision.ensures)

pub returns-in_err-write_from : goal.returns-in_err-write_from
returns-in_err-write_from g c =
    rw (fineness_parts c.args.case.now c.args.from)
    (c.writes_in_turn.ensures.both _ _ _ _ _ _ c.in_ok-write_precision.ensures (c.writes_in_turn.ensures.stopped _ _ _ _ _ _ c.from_residual-in_err-write_from.ensures.0 c.in_err-write_from.ensures))

pub returns-in_err-write_grid : goal.returns-in_err-write_grid
returns-in_err-write_grid g c =
    rw (fineness_parts c.args.case.now c.args.from)
    (c.writes_in_turn.ensures.both _ _ _ _ _ _ c.in_ok-write_precision.ensures (c.writes_in_turn.ensures.both _ _ _ _ _ _ c.in_ok-write_from.ensures (c.writes_in_turn.ensures.stopped _ _ _ _ _ _ c.from_residual-in_err-write_grid.ensures.0 c.in_err-write_grid.ensures)))

pub returns : goal.returns
returns g c =
    rw (fineness_parts c.args.case.now c.args.from)
    (c.writes_in_turn.ensures.both _ _ _ _ _ _ c.in_ok-write_precision.ensures
    (c.writes_in_turn.ensures.both _ _ _ _ _ _ c.in_ok-write_from.ensures (c.writes_in_turn.ensures.both _ _ _ _ _ _ c.in_ok-write_grid.ensures (rw c.root.ensures.value at c.write_box.ensures))))
