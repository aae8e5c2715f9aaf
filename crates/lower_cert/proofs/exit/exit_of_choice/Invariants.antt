use Rattle.std.proofs.Common.{pos, ◌≤ℤ◌}
use Rattle.lower_cert.specs.Exits.{ExitsAtMost}
use Rattle.lower_cert.proofs.exit.exit_of_choice.Given as goal

abbrev pub ghost-exit_at_corner : goal.ghost-exit_at_corner
ghost-exit_at_corner g a = g.spans

-- no more than this is held at the corners so far
abbrev pub invariant-loop-corner : goal.invariant-loop-corner
invariant-loop-corner g l = (pos 0 ≤ℤ l.least) × ExitsAtMost l.rows.case g.spans l.lane l.marks l.level l.s l.a l.least
