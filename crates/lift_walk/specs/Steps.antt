-- What a walk does with a rectangle.
use Rattle.std.specs.Prelude.{◌≡◌, ℕ, ◌+◌, Bool, false, List, OnOk}
use Rattle.std.specs.declared.option.Option.{Option}
use Rattle.std.specs.declared.result.Result.{Result}
use Rattle.lift_grid.specs.Rectangle.{Spans}
use Rattle.lift_grid.specs.Tree.{lower_half, upper_half}
use Rattle.corner_lift.specs.Case.{CaseData}
use Rattle.lift_walk.specs.Bases.{IsBaseBy, IsOffered, IsRefined, ahead_of}
use Rattle.lift_walk.specs.Halved.{Halved, IsHalvedOn, IsRightBy}
use Rattle.lift_walk.specs.Shown.{Shows}
use Rattle.lift_walk.specs.declared.step.Step.{Step}
use Rattle.lift_walk.specs.declared.step.Step.TheVariants.{Done, Halve}

-- What a walk over a rectangle at a depth comes to: whichever tree was known, one that refines it by right trees is shown, and where all was taken, what came after it is ahead.
abbrev pub GoesOn : {O T E Leaf Rest : Type 0} → (Spans → Leaf → Type 0) → (Spans → Type 0) → (Spans → Leaf → Type 0) → CaseData → Spans → ℕ → Bool → (Halved Leaf → Rest → Rest) → (Rest → Type 0) → (Rest → Type 0)
    → (Halved Leaf → T → Type 0) → (Halved Leaf → List ℕ) → (O → Option (List ℕ)) → (O → ℕ) → O → O → Result T E → Type 0
GoesOn {Leaf = Leaf} {Rest = Rest} decides opens may k spans depth known first ahead after is_part text taken faults old new result =
    (t : Halved Leaf) (rest : Rest) → IsOffered first ahead may k spans depth known t rest
    → Shows (IsRefined decides opens k spans depth t) is_part text taken faults old new result × OnOk result (after rest)

-- The trees of the halves, where that tree was known of the rectangle: the trees that refine it are splits on the axis, with trees that refine those of the halves.
pub record AreHalves {Leaf Rest : Type 0} (decides : Spans → Leaf → Type 0) (opens : Spans → Type 0) (may : Spans → Leaf → Type 0) (k : CaseData) (spans : Spans) (depth : ℕ) (first : Halved Leaf → Rest → Rest) (after : Rest → Type 0) (axis : ℕ) (known : Bool) (t : Halved Leaf) (rest : Rest) : Type 0 where
  pub lower : Halved Leaf
  pub upper : Halved Leaf
  pub low : IsOffered first after may k (lower_half axis spans) (depth + 1) known lower (ahead_of first known upper rest)
  pub none : known ≡ false → upper ≡ Halved.unknown
  pub base : IsBaseBy may k (upper_half axis spans) (depth + 1) upper
  pub joined : (a b : Halved Leaf) → IsRefined decides opens k (lower_half axis spans) (depth + 1) lower a → IsRefined decides opens k (upper_half axis spans) (depth + 1) upper b → IsRefined decides opens k spans depth t (Halved.split axis a b)
  pub parted : (refined : Halved Leaf) → IsRefined decides opens k spans depth t refined → (a : Halved Leaf) × ((b : Halved Leaf) × ((refined ≡ Halved.split axis a b)
      × (IsRefined decides opens k (lower_half axis spans) (depth + 1) lower a × IsRefined decides opens k (upper_half axis spans) (depth + 1) upper b)))

-- A step: the walk over the rectangle is done, or the rectangle is halved, nothing was taken, and whichever tree was known, those of the halves are.
abbrev pub Steps : {O T E Leaf Rest : Type 0} → (Spans → Leaf → Type 0) → (Spans → Type 0) → (Spans → Leaf → Type 0) → CaseData → Spans → ℕ → Bool → (Halved Leaf → Rest → Rest) → (Rest → Type 0) → (Rest → Type 0)
    → (Halved Leaf → T → Type 0) → (Halved Leaf → List ℕ) → (O → Option (List ℕ)) → (O → ℕ) → O → O → Step (Result T E) → Type 0
Steps decides opens may k spans depth known first ahead after is_part text taken faults old new (Done result) = GoesOn decides opens may k spans depth known first ahead after is_part text taken faults old new result
Steps {Leaf = Leaf} {Rest = Rest} decides opens may k spans depth known first ahead after is_part text taken faults old new (Halve h) =
    IsHalvedOn k spans depth h.axis × ((new ≡ old) × ((t : Halved Leaf) (rest : Rest) → IsOffered first ahead may k spans depth known t rest → AreHalves decides opens may k spans depth first after h.axis h.known t rest))

-- A step where nothing is known beforehand: the right tree is shown, or the rectangle is open and halved, and nothing was taken.
abbrev pub StepsAfresh : {O T E Leaf : Type 0} → (Spans → Leaf → Type 0) → (Spans → Type 0) → CaseData → Spans → ℕ → (Halved Leaf → T → Type 0) → (Halved Leaf → List ℕ) → (O → Option (List ℕ)) → (O → ℕ) → O → O → Step (Result T E) → Type 0
StepsAfresh decides opens k spans depth is_part text taken faults old new (Done result) = Shows (IsRightBy decides opens k spans depth) is_part text taken faults old new result
StepsAfresh decides opens k spans depth is_part text taken faults old new (Halve h) = opens spans × (IsHalvedOn k spans depth h.axis × ((new ≡ old) × (h.known ≡ false)))
