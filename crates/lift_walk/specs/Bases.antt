-- Trees that a walk goes on from: what of a tree is known beforehand, and what a walk shows where it is.
use Rattle.std.specs.Prelude.{◌≡◌, ℕ, ◌+◌, ◌≤◌, Bool, false, if◌then◌else◌}
use Rattle.lift_grid.specs.Rectangle.{Spans}
use Rattle.lift_grid.specs.Tree.{lower_half, upper_half}
use Rattle.corner_lift.specs.Case.{CaseData, IsInside, greatest_depth}
use Rattle.lift_walk.specs.Halved.{Halved, IsHalvedOn, IsRightBy}

-- a rectangle inside the root has at most one leaf that decides it, and none where it is open
pub record LeavesAreOne {Leaf : Type 0} (k : CaseData) (decides : Spans → Leaf → Type 0) (opens : Spans → Type 0) : Type 0 where
  pub one : (spans : Spans) (l m : Leaf) → IsInside k.root spans → decides spans l → decides spans m → l ≡ m
  pub none : (spans : Spans) (l : Leaf) → IsInside k.root spans → decides spans l → opens spans → ⊥

-- The second tree refines the first one over a rectangle at a depth: it is the same but for a tree in the place of each unknown leaf, of which P holds, with the rectangle and the depth of that leaf.
abbrev pub RefinesBy : {Leaf : Type 0} → (Spans → ℕ → Halved Leaf → Type 0) → Spans → ℕ → Halved Leaf → Halved Leaf → Type 0
RefinesBy P spans depth (Halved.split axis lower upper) (Halved.split other low up) = (axis ≡ other) × RefinesBy P (lower_half axis spans) (depth + 1) lower low × RefinesBy P (upper_half axis spans) (depth + 1) upper up
RefinesBy P spans depth (Halved.split axis lower upper) t = ⊥
RefinesBy P spans depth (Halved.leaf l) t = Halved.leaf l ≡ t
RefinesBy P spans depth Halved.unknown t = P spans depth t

-- A tree can be gone on from over a rectangle at a depth: a leaf that decides is one that may stand there, a split stands where the rectangle may be halved, and an unknown leaf no deeper than halvings go.
abbrev pub IsBaseBy : {Leaf : Type 0} → (Spans → Leaf → Type 0) → CaseData → Spans → ℕ → Halved Leaf → Type 0
IsBaseBy may k spans depth (Halved.leaf l) = may spans l
IsBaseBy may k spans depth (Halved.split axis lower upper) =
    IsHalvedOn k spans depth axis × IsBaseBy may k (lower_half axis spans) (depth + 1) lower × IsBaseBy may k (upper_half axis spans) (depth + 1) upper
IsBaseBy may k spans depth Halved.unknown = depth ≤ greatest_depth k

-- what is still to come, where a tree is known that comes first
abbrev pub ahead_of : {Leaf Rest : Type 0} → (Halved Leaf → Rest → Rest) → Bool → Halved Leaf → Rest → Rest
ahead_of first known t rest = if known then first t rest else rest

-- That tree is known of a rectangle at a depth, and then the rest comes. Where nothing is known, it is an unknown leaf.
pub record IsOffered {Leaf Rest : Type 0} (first : Halved Leaf → Rest → Rest) (is_ahead : Rest → Type 0) (may : Spans → Leaf → Type 0) (k : CaseData) (spans : Spans) (depth : ℕ) (known : Bool) (t : Halved Leaf) (rest : Rest) : Type 0 where
  pub ahead : is_ahead (ahead_of first known t rest)
  pub none : known ≡ false → t ≡ Halved.unknown
  pub base : IsBaseBy may k spans depth t

-- such a tree is known
abbrev pub OffersOne : {Leaf Rest : Type 0} → (Halved Leaf → Rest → Rest) → (Rest → Type 0) → (Spans → Leaf → Type 0) → CaseData → Spans → ℕ → Bool → Type 0
OffersOne {Leaf = Leaf} {Rest = Rest} first is_ahead may k spans depth known = (t : Halved Leaf) × ((rest : Rest) × IsOffered first is_ahead may k spans depth known t rest)

-- the tree refines that one by right trees
abbrev pub IsRefined : {Leaf : Type 0} → (Spans → Leaf → Type 0) → (Spans → Type 0) → CaseData → Spans → ℕ → Halved Leaf → Halved Leaf → Type 0
IsRefined decides opens k spans depth t refined = RefinesBy (λ part place tree. IsRightBy decides opens k part place tree) spans depth t refined

-- where the tree is a leaf that decides, it may stand at the rectangle
abbrev pub MayStand : {Leaf : Type 0} → (Spans → Leaf → Type 0) → Spans → Halved Leaf → Type 0
MayStand may spans (Halved.leaf l) = may spans l
MayStand may spans (Halved.split axis lower upper) = Unit {0}
MayStand may spans Halved.unknown = Unit {0}
