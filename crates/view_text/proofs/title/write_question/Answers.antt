use Rattle.view_text.proofs.title.write_question.Goals as goal

pub returns-in_err-write_bound : goal.returns-in_err-write_bound
returns-in_err-write_bound g c = c.writes_in_turn.ensures.stopped _ _ _ _ _ _ c.from_residual.ensures.0 c.in_err-write_bound.ensures

pub returns-in_err-write_range : goal.returns-in_err-write_range
returns-in_err-write_range g c = c.writes_in_turn.ensures.both _ _ _ _ _ _ c.in_ok-write_bound.ensures (c.writes_in_turn.ensures.stopped _ _ _ _ _ _ c.from_residual-in_err-write_range.ensures.0 (rw (c.from.ensures, c.w.ensures.value) at c.in_err-write_range.ensures))

pub returns : goal.returns
returns g c = c.writes_in_turn.ensures.both _ _ _ _ _ _ c.in_ok-write_bound.ensures (c.writes_in_turn.ensures.both _ _ _ _ _ _ (rw (c.from.ensures, c.w.ensures.value) at c.in_ok-write_range.ensures) c.write_depth.ensures)
