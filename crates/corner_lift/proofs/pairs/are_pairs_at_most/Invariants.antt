use Rattle.std.proofs.Common.{◌*◌, ◌-◌, ◌<◌, ◌≤◌, ◌≤ℤ◌, ℕ, length}
use Rattle.corner_lift.specs.Pairs.{pair_sum}
use Rattle.corner_lift.proofs.pairs.are_pairs_at_most.Given as goal

-- the sums of the corners before this one are within
abbrev pub invariant-loop-corner : goal.invariant-loop-corner
invariant-loop-corner l = (2 * l.corner ≤ length l.block) × ((c : ℕ) → c < l.corner → pair_sum l.block c l.first l.second ≤ℤ l.most)

abbrev pub decreases-loop-corner : goal.decreases-loop-corner
decreases-loop-corner l = length l.block - l.corner
