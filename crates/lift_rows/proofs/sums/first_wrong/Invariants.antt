use Rattle.std.proofs.Common.{◌≡◌, ℕ, ◌+◌, ◌*◌, ◌<◌, pos, slice_index_or}
use Rattle.corner_lift.specs.Case.{due}
use Rattle.lift_rows.proofs.sums.first_wrong.Given as goal

-- the sums so far are those that are due; past the last one the set may wrap
abbrev pub invariant-loop-sum : goal.invariant-loop-sum
invariant-loop-sum l =
    (l.sum-index < 256 → l.set ≡ l.block * 256 + l.sum-index)
    × ((i : ℕ) → i < l.sum-index → slice_index_or l.sums i (pos 0) ≡ due l.common (l.block * 256 + i))
