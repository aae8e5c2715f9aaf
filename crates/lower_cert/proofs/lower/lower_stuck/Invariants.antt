use Rattle.std.proofs.Common.{◌≡◌, ◌≤◌, ℕ}
use Rattle.corner_lift.specs.Case.{number}
use Rattle.lower_cert.specs.Lowering.{IsLoweredAt}
use Rattle.lower_cert.proofs.lower.lower_stuck.Given as goal

-- the states so far are lowered, and the others are as they were
abbrev pub invariant-loop-s : goal.invariant-loop-s
invariant-loop-s l = IsLoweredAt l.initial.lane l.lane l.ranks l.level l.s × ((t : ℕ) → l.s ≤ t → number l.lane t ≡ number l.initial.lane t)
