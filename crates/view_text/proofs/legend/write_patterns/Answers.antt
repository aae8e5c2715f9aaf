use Rattle.view_text.proofs.legend.write_patterns.Goals as goal

pub returns-in_err-write_pattern : goal.returns-in_err-write_pattern
returns-in_err-write_pattern g c = c.writes_in_turn.ensures.stopped _ _ _ _ _ _ c.from_residual.ensures.0 c.in_err-write_pattern.ensures

pub returns-in_err-write_pattern-2 : goal.returns-in_err-write_pattern-2
returns-in_err-write_pattern-2 g c = c.writes_in_turn.ensures.both _ _ _ _ _ _ c.in_ok-write_pattern.ensures (c.writes_in_turn.ensures.stopped _ _ _ _ _ _ c.from_residual-in_err-write_pattern-2.ensures.0 c.in_err-write_pattern-2.ensures)

pub returns : goal.returns
returns g c = c.writes_in_turn.ensures.both _ _ _ _ _ _ c.in_ok-write_pattern.ensures (c.writes_in_turn.ensures.both _ _ _ _ _ _ c.in_ok-write_pattern-2.ensures c.write_pattern-3.ensures)
