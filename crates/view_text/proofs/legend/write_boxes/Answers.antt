use Rattle.view_text.proofs.legend.write_boxes.Goals as goal

pub returns-in_err-write_box : goal.returns-in_err-write_box
returns-in_err-write_box g c = c.writes_in_turn.ensures.stopped _ _ _ _ _ _ c.from_residual.ensures.0 c.in_err-write_box.ensures

pub returns-in_err-write_box-2 : goal.returns-in_err-write_box-2
returns-in_err-write_box-2 g c = c.writes_in_turn.ensures.both _ _ _ _ _ _ c.in_ok-write_box.ensures (c.writes_in_turn.ensures.stopped _ _ _ _ _ _ c.from_residual-in_err-write_box-2.ensures.0 c.in_err-write_box-2.ensures)

pub returns : goal.returns
returns g c = c.writes_in_turn.ensures.both _ _ _ _ _ _ c.in_ok-write_box.ensures (c.writes_in_turn.ensures.both _ _ _ _ _ _ c.in_ok-write_box-2.ensures c.write_box-3.ensures)
