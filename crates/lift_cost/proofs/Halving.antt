-- Where each rectangle inside the root is decided by a leaf or open, there is a right tree, whatever its leaves are: by induction on the halvings that are left.
use Rattle.std.proofs.Common.{◌≡◌, ℕ, zero, suc, ◌+◌, ◌<◌, ◌⊎◌, ⊎_elim, arith}
use Rattle.lift_grid.specs.Rectangle.{Spans}
use Rattle.lift_grid.specs.Tree.{lower_half, upper_half}
use Rattle.corner_lift.specs.Case.{CaseData, IsCase, IsInside, greatest_depth}
use Rattle.corner_lift.specs.Laws.{LiveHasSpan}
use Rattle.lift_walk.specs.Halved.{Halved, IsRightBy}
use Rattle.lift_walk.specs.Laws.{HalvesAreDeeper}
use Rattle.lift_walk.specs.Sides.{IsAtDepth}
use Rattle.lift_cost.proofs.Axes.{split_axis}

module _ {Leaf : Type 0} (decides : Spans → Leaf → Type 0) (opens : Spans → Type 0) (has_span : LiveHasSpan) (halves : HalvesAreDeeper) (k : CaseData) (is : IsCase k) (outcome : (ss : Spans) → IsInside k.root ss → ((l : Leaf) × decides ss l) ⊎ opens ss) where
  abbrev Found : Spans → ℕ → Type 0
  Found ss depth = (tree : Halved Leaf) × IsRightBy decides opens k ss depth tree

  by_outcome : (ss : Spans) (depth : ℕ) → IsInside k.root ss → (opens ss → Found ss depth) → Found ss depth
  by_outcome ss depth inside if_open =
      ⊎_elim
      (λ (decided : (l : Leaf) × decides ss l). let tree : Found ss depth = (Halved.leaf decided.0, decided.1) in tree)
      if_open
      (outcome ss inside)

  tree_of : (left depth : ℕ) (ss : Spans) → depth + left ≡ greatest_depth k → IsAtDepth k depth ss → Found ss depth
  tree_of zero depth ss e at_depth = by_outcome ss depth at_depth.inside (λ o. (Halved.unknown, (o, omega (arith, e))))
  tree_of (suc left) depth ss e at_depth = by_outcome ss depth at_depth.inside
      (λ o.
      let more : depth < greatest_depth k = omega (arith, e) in
      let axis = split_axis has_span k ss depth is at_depth.inside more in
      let deeper = halves k ss depth axis.0 is at_depth more axis.1 in
      let next : depth + 1 + left ≡ greatest_depth k = omega (arith, e) in
      let low = tree_of left (depth + 1) (lower_half axis.0 ss) next deeper.0 in
      let up = tree_of left (depth + 1) (upper_half axis.0 ss) next deeper.1 in
      (Halved.split axis.0 low.0 up.0, (o, record { left = more; axis_is = axis.1 }, low.1, up.1)))

  pub right_tree : IsAtDepth k 0 k.root → (tree : Halved Leaf) × IsRightBy decides opens k k.root 0 tree
  right_tree at_root = tree_of (greatest_depth k) 0 k.root (omega arith) at_root
