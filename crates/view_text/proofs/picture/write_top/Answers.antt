use Rattle.view_text.proofs.picture.write_top.Goals as goal

pub returns-in_err-write_start : goal.returns-in_err-write_start
returns-in_err-write_start g c = c.writes_in_turn.ensures.stopped _ _ _ _ _ _ c.from_residual.ensures.0 c.in_err-write_start.ensures

pub returns-in_err-write_title : goal.returns-in_err-write_title
returns-in_err-write_title g c = c.writes_in_turn.ensures.both _ _ _ _ _ _ c.in_ok-write_start.ensures (c.writes_in_turn.ensures.stopped _ _ _ _ _ _ c.from_residual-in_err-write_title.ensures.0 c.in_err-write_title.ensures)

pub returns-in_err-write_legend : goal.returns-in_err-write_legend
returns-in_err-write_legend g c = c.writes_in_turn.ensures.both _ _ _ _ _ _ c.in_ok-write_start.ensures (c.writes_in_turn.ensures.both _ _ _ _ _ _ c.in_ok-write_title.ensures (c.writes_in_turn.ensures.stopped _ _ _ _ _ _ c.from_residual-in_err-write_legend.ensures.0 c.in_err-write_legend.ensures))

pub returns : goal.returns
returns g c = c.writes_in_turn.ensures.both _ _ _ _ _ _ c.in_ok-write_start.ensures (c.writes_in_turn.ensures.both _ _ _ _ _ _ c.in_ok-write_title.ensures (c.writes_in_turn.ensures.both _ _ _ _ _ _ c.in_ok-write_legend.ensures (rw (c.head.ensures, c.y.ensures) at c.write_axis.ensures)))
