use Rattle.std.proofs.Common.{◌≡◌, ℕ, ◌<◌}
use Rattle.corner_lift.specs.Case.{number}
use Rattle.lower_cert.proofs.lower.start.Given as goal

-- the numbers so far are 1
abbrev pub invariant-loop-s : goal.invariant-loop-s
invariant-loop-s g l = (t : ℕ) → t < l.s → number l.lane t ≡ l.top
