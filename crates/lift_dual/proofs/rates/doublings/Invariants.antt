use Rattle.std.proofs.Common.{ℕ, ◌^◌, ◌<◌, ◌≤◌, pos, ◌*ℤ◌, ◌≤ℤ◌}
use Rattle.lift_dual.proofs.rates.doublings.Given as goal

-- fewer aren't enough
abbrev pub invariant-loop-e : goal.invariant-loop-e
invariant-loop-e l = (m : ℕ) → l.first ≤ m → m < l.e → l.whole ≤ℤ (l.weight *ℤ pos (2 ^ m)) → ⊥
