-- Trees that go on where another one ends, and trees of certificates.
use Rattle.std.specs.Prelude.{◌≡◌, ℕ, ◌+◌, ◌<◌, ◌≤◌}
use Rattle.lift_grid.specs.Rectangle.{Spans}
use Rattle.lift_grid.specs.Splitting.{IsSplitAxis}
use Rattle.lift_grid.specs.Tree.{Tree, lower_half, upper_half}
use Rattle.lift_grid.specs.Tree.Tree.{split, accept, reject, unknown}
use Rattle.lift_model.specs.Model.{live}
use Rattle.corner_lift.specs.Case.{CaseData, at, greatest_depth}
use Rattle.lift_cert.specs.Certificate.{IsAccepting, IsRejecting}
use Rattle.lift_cert.specs.declared.bound.Bound.{Bound}

-- The second tree refines the first one over a rectangle at a depth: it is the same but for a tree in the place of each unknown leaf, of which P holds, with the rectangle and the depth of that leaf.
abbrev pub Refines : (Spans → ℕ → Tree → Type 0) → Spans → ℕ → Tree → Tree → Type 0
Refines P spans depth (split axis lower upper) (split other low up) = (axis ≡ other) × Refines P (lower_half axis spans) (depth + 1) lower low × Refines P (upper_half axis spans) (depth + 1) upper up
Refines P spans depth (split axis lower upper) t = ⊥
Refines P spans depth (accept u x) t = accept u x ≡ t
Refines P spans depth (reject u r) t = reject u r ≡ t
Refines P spans depth unknown t = P spans depth t

-- a rectangle at this depth may be halved on that axis: a halving is left, and the split rule chooses the axis
pub record MayBeHalved (k : CaseData) (spans : Spans) (depth axis : ℕ) : Type 0 where
  pub left : depth < greatest_depth k
  pub axis_is : IsSplitAxis (live k.model) spans axis

-- The tree is certified over a rectangle at a depth, but for its unknown leaves, of whose depth P holds: each leaf that accepts or rejects holds such a certificate of its rectangle, at its own precision, and a split stands where the rectangle may be halved.
abbrev pub IsCertifiedUpTo : (ℕ → Type 0) → CaseData → Bound → Spans → ℕ → Tree → Type 0
IsCertifiedUpTo P k bound spans depth (accept u x) = IsAccepting (at k u) spans bound x
IsCertifiedUpTo P k bound spans depth (reject u r) = IsRejecting (at k u) spans bound r
IsCertifiedUpTo P k bound spans depth (split axis lower upper) =
    MayBeHalved k spans depth axis × IsCertifiedUpTo P k bound (lower_half axis spans) (depth + 1) lower × IsCertifiedUpTo P k bound (upper_half axis spans) (depth + 1) upper
IsCertifiedUpTo P k bound spans depth unknown = P depth

-- it is certified: its unknown leaves stand at the greatest depth
abbrev pub IsCertified : CaseData → Bound → Spans → ℕ → Tree → Type 0
IsCertified k bound spans depth t = IsCertifiedUpTo (λ place. place ≡ greatest_depth k) k bound spans depth t

-- it is a base, from which a certified one can be gone on to: they stand there or above
abbrev pub IsBase : CaseData → Bound → Spans → ℕ → Tree → Type 0
IsBase k bound spans depth t = IsCertifiedUpTo (λ place. place ≤ greatest_depth k) k bound spans depth t
