use Rattle.view_text.proofs.ticks.write_all_ticks.Goals as goal

pub returns-in_err-write_all : goal.returns-in_err-write_all
returns-in_err-write_all g c = c.writes_in_turn.ensures.stopped _ _ _ _ _ _ c.from_residual.ensures.0 (rw (c.ticks_start.ensures) at c.in_err-write_all.ensures.wrote)

pub returns-in_err-write_tick : goal.returns-in_err-write_tick
returns-in_err-write_tick g c = c.writes_in_turn.ensures.both _ _ _ _ _ _ (rw (c.ticks_start.ensures) at c.in_ok-write_all.ensures.wrote) (c.writes_in_turn.ensures.stopped _ _ _ _ _ _ c.from_residual-in_err-write_tick.ensures.0 c.in_err-write_tick.ensures)

pub returns-in_err-write_tick-2 : goal.returns-in_err-write_tick-2
returns-in_err-write_tick-2 g c = c.writes_in_turn.ensures.both _ _ _ _ _ _ (rw (c.ticks_start.ensures) at c.in_ok-write_all.ensures.wrote) (c.writes_in_turn.ensures.both _ _ _ _ _ _ c.in_ok-write_tick.ensures (c.writes_in_turn.ensures.stopped _ _ _ _ _ _ c.from_residual-in_err-write_tick-2.ensures.0 c.in_err-write_tick-2.ensures))

pub returns-in_err-write_tick-3 : goal.returns-in_err-write_tick-3
returns-in_err-write_tick-3 g c = c.writes_in_turn.ensures.both _ _ _ _ _ _ (rw (c.ticks_start.ensures) at c.in_ok-write_all.ensures.wrote) (c.writes_in_turn.ensures.both _ _ _ _ _ _ c.in_ok-write_tick.ensures (c.writes_in_turn.ensures.both _ _ _ _ _ _ c.in_ok-write_tick-2.ensures (c.writes_in_turn.ensures.stopped _ _ _ _ _ _ c.from_residual-in_err-write_tick-3.ensures.0 c.in_err-write_tick-3.ensures)))

pub returns-in_err-write_tick-4 : goal.returns-in_err-write_tick-4
returns-in_err-write_tick-4 g c = c.writes_in_turn.ensures.both _ _ _ _ _ _ (rw (c.ticks_start.ensures) at c.in_ok-write_all.ensures.wrote) (c.writes_in_turn.ensures.both _ _ _ _ _ _ c.in_ok-write_tick.ensures (c.writes_in_turn.ensures.both _ _ _ _ _ _ c.in_ok-write_tick-2.ensures (c.writes_in_turn.ensures.both _ _ _ _ _ _ c.in_ok-write_tick-3.ensures (c.writes_in_turn.ensures.stopped _ _ _ _ _ _ c.from_residual-in_err-write_tick-4.ensures.0 c.in_err-write_tick-4.ensures))))

pub returns-in_err-write_tick-5 : goal.returns-in_err-write_tick-5
returns-in_err-write_tick-5 g c = c.writes_in_turn.ensures.both _ _ _ _ _ _ (rw (c.ticks_start.ensures) at c.in_ok-write_all.ensures.wrote) (c.writes_in_turn.ensures.both _ _ _ _ _ _ c.in_ok-write_tick.ensures (c.writes_in_turn.ensures.both _ _ _ _ _ _ c.in_ok-write_tick-2.ensures (c.writes_in_turn.ensures.both _ _ _ _ _ _ c.in_ok-write_tick-3.ensures (c.writes_in_turn.ensures.both _ _ _ _ _ _ c.in_ok-write_tick-4.ensures (c.writes_in_turn.ensures.stopped _ _ _ _ _ _ c.from_residual-in_err-write_tick-5.ensures.0 c.in_err-write_tick-5.ensures)))))

pub returns : goal.returns
returns g c = c.writes_in_turn.ensures.both _ _ _ _ _ _ (rw (c.ticks_start.ensures) at c.in_ok-write_all.ensures.wrote) (c.writes_in_turn.ensures.both _ _ _ _ _ _ c.in_ok-write_tick.ensures (c.writes_in_turn.ensures.both _ _ _ _ _ _ c.in_ok-write_tick-2.ensures (c.writes_in_turn.ensures.both _ _ _ _ _ _ c.in_ok-write_tick-3.ensures (c.writes_in_turn.ensures.both _ _ _ _ _ _ c.in_ok-write_tick-4.ensures (c.writes_in_turn.ensures.both _ _ _ _ _ _ c.in_ok-write_tick-5.ensures c.write_all-2.ensures.wrote)))))
