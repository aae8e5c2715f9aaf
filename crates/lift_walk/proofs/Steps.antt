-- What a step comes to, and the walk that takes it.
use Rattle.std.proofs.Common.{◌≡◌, ℕ, ◌+◌, ◌≤◌, Bool, false, List, refl, sym, ap, subst, arith, Option, Result, Ok, Err, IfOk, OnOk}
use Rattle.lift_grid.specs.Rectangle.{Spans}
use Rattle.lift_grid.specs.Tree.{lower_half, upper_half}
use Rattle.corner_lift.specs.Case.{CaseData, IsInside, greatest_depth}
use Rattle.lift_walk.specs.Bases.{IsOffered, IsRefined, LeavesAreOne, ahead_of}
use Rattle.lift_walk.specs.Halved.{Halved, IsHalvedOn, IsRightBy}
use Rattle.lift_walk.specs.Laws.{SplitAxesAreOne}
use Rattle.lift_walk.specs.Shown.{Shows, Took}
use Rattle.lift_walk.specs.Steps.{Steps, StepsAfresh}
use Rattle.lift_walk.specs.declared.step.Step.{Step}
use Rattle.lift_walk.specs.declared.step.Step.TheVariants.{Done, Halve}
use Rattle.lift_walk.proofs.Shown.{one_shown}

pub on_ok : {T E : Type 0} (P : Type 0) (result : Result T E) → P → OnOk result P
on_ok P (Ok x) h = h
on_ok P (Err e) h = tt

module _ {Tip : Type 0} (decides : Spans → Tip → Type 0) (opens : Spans → Type 0) (k : CaseData) (spans : Spans) (inside : IsInside k.root spans) (depth : ℕ) (leaves : LeavesAreOne k decides opens) where
  abbrev Right : Halved Tip → Type 0
  Right t = IsRightBy decides opens k spans depth t

  -- ---- one right tree

  decided_only : (l : Tip) → decides spans l → (other : Halved Tip) → Right other → other ≡ Halved.leaf l
  decided_only l d (Halved.leaf m) right = ap Halved.leaf (leaves.one spans m l inside right d)
  decided_only l d (Halved.split axis a b) right = absurd (leaves.none spans l inside d right.0)
  decided_only l d Halved.unknown right = absurd (leaves.none spans l inside d right.0)

  open_only : opens spans → depth ≡ greatest_depth k → (other : Halved Tip) → Right other → other ≡ Halved.unknown
  open_only o last (Halved.leaf m) right = absurd (leaves.none spans m inside right o)
  open_only o last (Halved.split axis a b) right = absurd (omega (arith, right.1.left, last))
  open_only o last Halved.unknown right = refl

  -- whichever tree is right of an open rectangle that is halved is a split on the axis, with a right tree for each half
  open_parted : SplitAxesAreOne → (axis : ℕ) → opens spans → IsHalvedOn k spans depth axis → (t : Halved Tip) → Right t
      → (a : Halved Tip) × ((b : Halved Tip) × ((t ≡ Halved.split axis a b) × (IsRightBy decides opens k (lower_half axis spans) (depth + 1) a × IsRightBy decides opens k (upper_half axis spans) (depth + 1) b)))
  open_parted axes axis o halved (Halved.leaf l) right = absurd (leaves.none spans l inside right o)
  open_parted axes axis o halved (Halved.split i a b) right =
      let same : i ≡ axis = axes _ spans i axis right.1.axis_is halved.axis_is in
      (a, (b, (ap (λ n. Halved.split n a b) same, (subst (λ n. IsRightBy decides opens k (lower_half n spans) (depth + 1) a) same right.2, subst (λ n. IsRightBy decides opens k (upper_half n spans) (depth + 1) b) same right.3))))
  open_parted axes axis o halved Halved.unknown right = absurd (omega (arith, halved.left, right.1))

  -- ---- where nothing is known

  module _ {O T E : Type 0} (is_part : Halved Tip → T → Type 0) (text : Halved Tip → List ℕ) (taken : O → Option (List ℕ)) (faults : O → ℕ) (old new : O) where
    -- a leaf that decides the rectangle was taken
    pub leaf_steps : (l : Tip) → decides spans l → (result : Result T E) → IfOk result (is_part (Halved.leaf l)) → Took taken faults old new result (text (Halved.leaf l)) → Shows Right is_part text taken faults old new result
    leaf_steps l d result part took = one_shown Right (Halved.leaf l) d (decided_only l d) text taken faults is_part old new result part took

    -- an unknown leaf was taken, where no halving is left
    pub unknown_steps : opens spans → depth ≡ greatest_depth k → (result : Result T E) → IfOk result (is_part Halved.unknown) → Took taken faults old new result (text Halved.unknown) → Shows Right is_part text taken faults old new result
    unknown_steps o last result part took = one_shown Right Halved.unknown (o, last) (open_only o last) text taken faults is_part old new result part took

    -- ---- what is known

    module _ {Rest : Type 0} (may : Spans → Tip → Type 0) (known : Bool) (first : Halved Tip → Rest → Rest) (ahead after : Rest → Type 0) where
      -- where whichever tree was known is an unknown leaf
      pub steps_afresh : SplitAxesAreOne → ((t : Halved Tip) (rest : Rest) → IsOffered first ahead may k spans depth known t rest → (t ≡ Halved.unknown) × after rest)
          → (step : Step (Result T E)) → StepsAfresh decides opens k spans depth is_part text taken faults old new step → Steps decides opens may k spans depth known first ahead after is_part text taken faults old new step
      steps_afresh axes nothing (Done result) shows = λ t rest offered.
          (let u = nothing t rest offered in
          (subst (λ it. Shows (IsRefined decides opens k spans depth it) is_part text taken faults old new result) (sym u.0) shows, on_ok (after rest) result u.1))
      steps_afresh axes nothing (Halve h) steps =
          let o = steps.0 in
          let halved = steps.1.0 in
          let unknown_is : h.known ≡ false = steps.1.1.1 in
          let left : depth + 1 ≤ greatest_depth k = omega (arith, halved.left) in (
            halved,
            (
              steps.1.1.0,
              λ t rest offered.
                  (let u = nothing t rest offered in
                  record {
                    lower = Halved.unknown;
                    upper = Halved.unknown;
                    low = record {
                      ahead = subst (λ b. after (ahead_of first b Halved.unknown (ahead_of first b Halved.unknown rest))) (sym unknown_is) u.1;
                      none = λ _. refl;
                      base = left;
                    };
                    none = λ _. refl;
                    base = left;
                    joined = λ a b lower upper. subst (λ it. IsRefined decides opens k spans depth it (Halved.split h.axis a b)) (sym u.0) (o, halved, lower, upper);
                    parted = λ refined right. open_parted axes h.axis o halved refined (subst (λ it. IsRefined decides opens k spans depth it refined) u.0 right);
                  }),
            ),
          )
