use Rattle.std.proofs.Common.{◌≡◌, ℕ, ◌<◌, ◌≤◌, ◌^◌, pos, ◌-ℤ◌}
use Rattle.corner_lift.specs.Case.{number}
use Rattle.lift_dual.proofs.all.leave_rest.Given as goal

-- the places before this one have what is left, and the others are as they were
abbrev pub invariant-loop-s : goal.invariant-loop-s
invariant-loop-s l = record {
  done : (i : ℕ) → i < l.s → number l.lane i ≡ pos (2 ^ l.rows.case.w) -ℤ number l.fn.lane i;
  others : (i : ℕ) → l.s ≤ i → number l.lane i ≡ number l.fn.lane i;
}
