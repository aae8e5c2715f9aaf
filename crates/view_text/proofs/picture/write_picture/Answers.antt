use Rattle.view_text.proofs.picture.write_picture.Goals as goal

pub returns-in_err-write_top : goal.returns-in_err-write_top
returns-in_err-write_top g c = c.writes_in_turn.ensures.stopped _ _ _ _ _ _ c.from_residual.ensures.0 c.in_err-write_top.ensures

pub returns-in_err-write_field : goal.returns-in_err-write_field
returns-in_err-write_field g c = c.writes_in_turn.ensures.both _ _ _ _ _ _ c.in_ok-write_top.ensures (c.writes_in_turn.ensures.stopped _ _ _ _ _ _ c.from_residual-in_err-write_field.ensures.0 c.in_err-write_field.ensures)

pub returns : goal.returns
returns g c = c.writes_in_turn.ensures.both _ _ _ _ _ _ c.in_ok-write_top.ensures (c.writes_in_turn.ensures.both _ _ _ _ _ _ c.in_ok-write_field.ensures (rw (c.head.ensures) at c.write_bottom.ensures))
