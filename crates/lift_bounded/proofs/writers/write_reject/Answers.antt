use Rattle.std.proofs.Common.{arith}
use Rattle.lift_bounded.proofs.writers.write_reject.Goals as goal

pub write_reached-requires : goal.write_reached-requires
write_reached-requires g c = rw c.lane.ensures (c.requires.numbers.sizes c.args.h (omega arith))

pub returns-in_err-write_reached : goal.returns-in_err-write_reached
returns-in_err-write_reached g c = c.writes_in_turn.ensures.stopped _ _ _ _ _ _ c.from_residual.ensures.0 (rw c.lane.ensures at c.in_err-write_reached.ensures)

pub returns : goal.returns
returns g c = c.writes_in_turn.ensures.both _ _ _ _ _ _ (rw c.lane.ensures at c.in_ok-write_reached.ensures) c.write_lowers.ensures
