use Rattle.view_text.proofs.field.write_path.Goals as goal

pub returns-in_err-write_path_start : goal.returns-in_err-write_path_start
returns-in_err-write_path_start g c = c.writes_in_turn.ensures.stopped _ _ _ _ _ _ c.from_residual.ensures.0 c.in_err-write_path_start.ensures

pub returns-in_err-write_outlines : goal.returns-in_err-write_outlines
returns-in_err-write_outlines g c = c.writes_in_turn.ensures.both _ _ _ _ _ _ c.in_ok-write_path_start.ensures (c.writes_in_turn.ensures.stopped _ _ _ _ _ _ c.from_residual-in_err-write_outlines.ensures.0 c.in_err-write_outlines.ensures)

pub returns : goal.returns
returns g c = c.writes_in_turn.ensures.both _ _ _ _ _ _ c.in_ok-write_path_start.ensures (c.writes_in_turn.ensures.both _ _ _ _ _ _ c.in_ok-write_outlines.ensures c.write_all.ensures.wrote)
