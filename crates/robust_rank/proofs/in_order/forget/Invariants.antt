use Rattle.std.proofs.Common.{◌≡◌, ℕ, ◌<◌}
use Rattle.corner_lift.specs.Certificate.{mark}
use Rattle.robust_rank.specs.InOrder.{unseen}
use Rattle.robust_rank.proofs.in_order.forget.Given as goal

abbrev pub invariant-loop-s : goal.invariant-loop-s
invariant-loop-s l = (t : ℕ) → t < l.s → mark l.ranks t ≡ unseen
