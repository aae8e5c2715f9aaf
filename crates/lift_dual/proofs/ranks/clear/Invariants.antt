use Rattle.std.proofs.Common.{◌≡◌, ℕ, ◌<◌}
use Rattle.corner_lift.specs.Certificate.{mark, unmarked}
use Rattle.lift_dual.proofs.ranks.clear.Given as goal

abbrev pub invariant-loop-s : goal.invariant-loop-s
invariant-loop-s l = (t : ℕ) → t < l.s → mark l.ranks t ≡ unmarked
