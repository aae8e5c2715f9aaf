use Rattle.view_text.proofs.field.write_paths.Goals as goal

pub returns-in_err-write_path : goal.returns-in_err-write_path
returns-in_err-write_path g c = c.writes_in_turn.ensures.stopped _ _ _ _ _ _ c.from_residual.ensures.0 c.in_err-write_path.ensures

pub returns-in_err-write_path-2 : goal.returns-in_err-write_path-2
returns-in_err-write_path-2 g c = c.writes_in_turn.ensures.both _ _ _ _ _ _ c.in_ok-write_path.ensures (c.writes_in_turn.ensures.stopped _ _ _ _ _ _ c.from_residual-in_err-write_path-2.ensures.0 c.in_err-write_path-2.ensures)

pub returns : goal.returns
returns g c = c.writes_in_turn.ensures.both _ _ _ _ _ _ c.in_ok-write_path.ensures (c.writes_in_turn.ensures.both _ _ _ _ _ _ c.in_ok-write_path-2.ensures c.write_path-3.ensures)
