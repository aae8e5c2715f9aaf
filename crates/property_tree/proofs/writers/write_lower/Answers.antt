use Rattle.property_tree.proofs.Lanes.{one_of}
use Rattle.property_tree.proofs.writers.write_lower.Goals as goal

pub write_numbers_below-requires : goal.write_numbers_below-requires
write_numbers_below-requires g c = record { u = c.requires.u; numbers = rw c.lane.ensures (one_of c.args.pools.now.values.lanes _ c.requires.pools.values).1 }

pub returns-in_err-write_numbers_below : goal.returns-in_err-write_numbers_below
returns-in_err-write_numbers_below g c = c.writes_in_turn.ensures.stopped _ _ _ _ _ _ c.from_residual.ensures.0 (rw c.lane.ensures at c.in_err-write_numbers_below.ensures)

pub returns-in_err-write_mark_line : goal.returns-in_err-write_mark_line
returns-in_err-write_mark_line g c =
    c.writes_in_turn.ensures.both _ _ _ _ _ _ (rw c.lane.ensures at c.in_ok-write_numbers_below.ensures)
    (c.writes_in_turn.ensures.stopped _ _ _ _ _ _ c.from_residual-in_err-write_mark_line.ensures.0 (rw c.lane-2.ensures at c.in_err-write_mark_line.ensures))

pub returns : goal.returns
returns g c =
    c.writes_in_turn.ensures.both _ _ _ _ _ _ (rw c.lane.ensures at c.in_ok-write_numbers_below.ensures)
    (c.writes_in_turn.ensures.both _ _ _ _ _ _ (rw c.lane-2.ensures at c.in_ok-write_mark_line.ensures) (rw c.lane-3.ensures at c.write_mark_line-2.ensures))
