use Rattle.view_text.proofs.field.write_field.Goals as goal

pub returns-in_err-write_all : goal.returns-in_err-write_all
returns-in_err-write_all g c = c.writes_in_turn.ensures.stopped _ _ _ _ _ _ c.from_residual.ensures.0 (rw (c.field_start.ensures, c.y.ensures) at c.in_err-write_all.ensures.wrote)

pub returns-in_err-write_paths : goal.returns-in_err-write_paths
returns-in_err-write_paths g c = c.writes_in_turn.ensures.both _ _ _ _ _ _ (rw (c.field_start.ensures, c.y.ensures) at c.in_ok-write_all.ensures.wrote) (c.writes_in_turn.ensures.stopped _ _ _ _ _ _ c.from_residual-in_err-write_paths.ensures.0 c.in_err-write_paths.ensures)

pub returns-in_err-write_path : goal.returns-in_err-write_path
returns-in_err-write_path g c = c.writes_in_turn.ensures.both _ _ _ _ _ _ (rw (c.field_start.ensures, c.y.ensures) at c.in_ok-write_all.ensures.wrote) (c.writes_in_turn.ensures.both _ _ _ _ _ _ c.in_ok-write_paths.ensures (c.writes_in_turn.ensures.stopped _ _ _ _ _ _ c.from_residual-in_err-write_path.ensures.0 c.in_err-write_path.ensures))

pub returns : goal.returns
returns g c = c.writes_in_turn.ensures.both _ _ _ _ _ _ (rw (c.field_start.ensures, c.y.ensures) at c.in_ok-write_all.ensures.wrote) (c.writes_in_turn.ensures.both _ _ _ _ _ _ c.in_ok-write_paths.ensures (c.writes_in_turn.ensures.both _ _ _ _ _ _ c.in_ok-write_path.ensures (rw (c.field_end.ensures, c.y-2.ensures) at c.write_all-2.ensures.wrote)))
