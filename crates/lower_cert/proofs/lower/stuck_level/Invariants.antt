use Rattle.lower_cert.specs.Lowering.{IsStuckLevel}
use Rattle.lower_cert.proofs.lower.stuck_level.Given as goal

-- the greatest so far
abbrev pub invariant-loop-s : goal.invariant-loop-s
invariant-loop-s l = IsStuckLevel l.lane l.ranks l.s l.level
