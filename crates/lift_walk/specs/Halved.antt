-- Trees of rectangles with leaves of any kind, and which of them is right for who decides rectangles by leaves of that kind.
use Rattle.std.specs.Prelude.{◌≡◌, ℕ, ◌+◌, ◌<◌, List, ◌++◌}
use Rattle.lift_grid.specs.Rectangle.{Spans}
use Rattle.lift_grid.specs.Splitting.{IsSplitAxis}
use Rattle.lift_grid.specs.Tree.{lower_half, upper_half}
use Rattle.lift_model.specs.Model.{live}
use Rattle.corner_lift.specs.Case.{CaseData, greatest_depth}

-- a split on a parameter with the trees of the lower and the upper half, a decided leaf, or an unknown one
pub data Halved (Leaf : Type 0) : Type 0 where
  split : ℕ → Halved Leaf → Halved Leaf → Halved Leaf
  leaf : Leaf → Halved Leaf
  unknown : Halved Leaf

-- a rectangle at this depth is halved on that axis: a halving is left, and the split rule chooses the axis
pub record IsHalvedOn (k : CaseData) (spans : Spans) (depth axis : ℕ) : Type 0 where
  pub left : depth < greatest_depth k
  pub axis_is : IsSplitAxis (live k.model) spans axis

-- The right tree over a rectangle at a depth, by what decides a rectangle with a leaf and what leaves it open: a leaf that decides it; else a split with the right trees of both halves while a halving is left, and an unknown leaf at the greatest depth.
abbrev pub IsRightBy : {Leaf : Type 0} → (Spans → Leaf → Type 0) → (Spans → Type 0) → CaseData → Spans → ℕ → Halved Leaf → Type 0
IsRightBy decides opens k spans depth (Halved.leaf l) = decides spans l
IsRightBy decides opens k spans depth (Halved.split axis lower upper) =
    opens spans × IsHalvedOn k spans depth axis × IsRightBy decides opens k (lower_half axis spans) (depth + 1) lower × IsRightBy decides opens k (upper_half axis spans) (depth + 1) upper
IsRightBy decides opens k spans depth Halved.unknown = opens spans × (depth ≡ greatest_depth k)

-- The text of a tree, its nodes in preorder, by the texts of a split, of a decided leaf and of an unknown one.
abbrev pub preorder_text : {Leaf : Type 0} → (ℕ → List ℕ) → (Leaf → List ℕ) → List ℕ → Halved Leaf → List ℕ
preorder_text split_text leaf_text unknown_text (Halved.split axis lower upper) =
    split_text axis ++ (preorder_text split_text leaf_text unknown_text lower ++ preorder_text split_text leaf_text unknown_text upper)
preorder_text split_text leaf_text unknown_text (Halved.leaf l) = leaf_text l
preorder_text split_text leaf_text unknown_text Halved.unknown = unknown_text
