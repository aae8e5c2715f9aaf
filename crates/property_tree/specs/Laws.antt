-- What holds of right trees for a property, for who reasons about them.
use Rattle.std.specs.Prelude.{◌≡◌, ℕ, ◌≤◌}
use Rattle.lift_grid.specs.Rectangle.{Spans}
use Rattle.corner_lift.specs.Case.{CaseData, IsCase, IsInside}
use Rattle.lift_cert.specs.declared.bound.Bound.{Bound}
use Rattle.lift_walk.specs.Halved.{Halved}
use Rattle.property_text.specs.declared.op.Op.{Op}
use Rattle.property_tree.specs.Leaves.{PropertyLeaf, RangeLeaf, DecidesFor, DecidesOver, IsRightFor, IsRightOver}

-- a rectangle inside the root is decided by at most one leaf
abbrev pub LeavesAreOne : Type 0
LeavesAreOne = (k : CaseData) (op : Op) (bound : Bound) (spans : Spans) (a b : PropertyLeaf) → IsCase k → IsInside k.root spans → DecidesFor k op bound spans a → DecidesFor k op bound spans b → a ≡ b

-- a case has at most one right tree for a comparison and a bound
abbrev pub PropertyTreesAreOne : Type 0
PropertyTreesAreOne = (k : CaseData) (op : Op) (bound : Bound) (tree other : Halved PropertyLeaf) → IsCase k → IsRightFor k op bound k.root 0 tree → IsRightFor k op bound k.root 0 other → tree ≡ other

-- ---- a range of precisions

-- a rectangle inside the root is decided by at most one leaf
abbrev pub RangeLeavesAreOne : Type 0
RangeLeavesAreOne = (k : CaseData) (v : ℕ) (op : Op) (bound : Bound) (spans : Spans) (a b : RangeLeaf) → IsCase k → 1 ≤ v → IsInside k.root spans → DecidesOver k v op bound spans a → DecidesOver k v op bound spans b → a ≡ b

-- a case has at most one right tree for a comparison, a bound and a range
abbrev pub RangeTreesAreOne : Type 0
RangeTreesAreOne = (k : CaseData) (v : ℕ) (op : Op) (bound : Bound) (tree other : Halved RangeLeaf) → IsCase k → 1 ≤ v → IsRightOver k v op bound k.root 0 tree → IsRightOver k v op bound k.root 0 other → tree ≡ other
