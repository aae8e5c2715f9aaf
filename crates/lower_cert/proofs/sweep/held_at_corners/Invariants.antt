use Rattle.std.proofs.Common.{pos, ◌≤ℤ◌}
use Rattle.lower_cert.specs.Lowering.{HoldsNoMore}
use Rattle.lower_cert.proofs.sweep.held_at_corners.Given as goal

abbrev pub ghost-exit_at : goal.ghost-exit_at
ghost-exit_at g a = g.spans

-- no more than this is held at the corners so far
abbrev pub invariant-loop-corner : goal.invariant-loop-corner
invariant-loop-corner g l = (pos 0 ≤ℤ l.least) × HoldsNoMore l.rows.case g.spans l.lane l.s l.a l.least
