use Rattle.view_text.proofs.picture.write_bottom.Goals as goal

pub returns-in_err-write_axis : goal.returns-in_err-write_axis
returns-in_err-write_axis g c = c.writes_in_turn.ensures.stopped _ _ _ _ _ _ c.from_residual.ensures.0 (rw (c.x.ensures) at c.in_err-write_axis.ensures)

pub returns-in_err-write_note : goal.returns-in_err-write_note
returns-in_err-write_note g c = c.writes_in_turn.ensures.both _ _ _ _ _ _ (rw (c.x.ensures) at c.in_ok-write_axis.ensures) (c.writes_in_turn.ensures.stopped _ _ _ _ _ _ c.from_residual-in_err-write_note.ensures.0 c.in_err-write_note.ensures)

pub returns-in_err-write_cuts : goal.returns-in_err-write_cuts
returns-in_err-write_cuts g c = c.writes_in_turn.ensures.both _ _ _ _ _ _ (rw (c.x.ensures) at c.in_ok-write_axis.ensures) (c.writes_in_turn.ensures.both _ _ _ _ _ _ c.in_ok-write_note.ensures (c.writes_in_turn.ensures.stopped _ _ _ _ _ _ c.from_residual-in_err-write_cuts.ensures.0 c.in_err-write_cuts.ensures))

pub returns : goal.returns
returns g c = c.writes_in_turn.ensures.both _ _ _ _ _ _ (rw (c.x.ensures) at c.in_ok-write_axis.ensures) (c.writes_in_turn.ensures.both _ _ _ _ _ _ c.in_ok-write_note.ensures (c.writes_in_turn.ensures.both _ _ _ _ _ _ c.in_ok-write_cuts.ensures c.write_all.ensures.wrote))
