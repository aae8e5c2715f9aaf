use Rattle.std.proofs.Common.{◌≡◌, ◌<◌, ◌≤◌, ℕ}
use Rattle.corner_lift.specs.Case.{number}
use Rattle.corner_lift.specs.Certificate.{mark, unmarked}
use Rattle.lower_cert.proofs.exit.mark_level.Given as goal

-- of the states so far, the marked ones have no rank, and the number
abbrev pub invariant-loop-s : goal.invariant-loop-s
invariant-loop-s l = (t : ℕ) → t < l.s → mark l.marks t < 1 → (unmarked ≤ mark l.ranks t) × (number l.lane t ≡ l.level)
