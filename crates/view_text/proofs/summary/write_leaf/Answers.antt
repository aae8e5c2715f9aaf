use Rattle.view_text.proofs.summary.write_leaf.Goals as goal

pub returns-in_err-write_kind : goal.returns-in_err-write_kind
returns-in_err-write_kind g c = c.writes_in_turn.ensures.stopped _ _ _ _ _ _ c.from_residual.ensures.0 c.in_err-write_kind.ensures

pub returns-in_err-write_intervals : goal.returns-in_err-write_intervals
returns-in_err-write_intervals g c = c.writes_in_turn.ensures.both _ _ _ _ _ _ c.in_ok-write_kind.ensures (c.writes_in_turn.ensures.stopped _ _ _ _ _ _ c.from_residual-in_err-write_intervals.ensures.0 c.in_err-write_intervals.ensures)

pub returns : goal.returns
returns g c = c.writes_in_turn.ensures.both _ _ _ _ _ _ c.in_ok-write_kind.ensures (c.writes_in_turn.ensures.both _ _ _ _ _ _ c.in_ok-write_intervals.ensures c.write_all.ensures.wrote)
