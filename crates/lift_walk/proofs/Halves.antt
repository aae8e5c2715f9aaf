-- How a walk goes on in both halves of a rectangle.
use Rattle.std.proofs.Common.{◌≡◌, ℕ, ◌+◌, Bool, List, Option, Result, Ok, Err, IfOk, IsErr, OnErr, OnOk, ap, ◌∙◌}
use Rattle.lift_base.specs.Outside.{Rose}
use Rattle.lift_pool.specs.Lanes.{PoolData, pool_without_last}
use Rattle.lift_grid.specs.Rectangle.{Spans}
use Rattle.lift_grid.specs.Tree.{lower_half, upper_half}
use Rattle.corner_lift.specs.Case.{CaseData}
use Rattle.lift_walk.specs.Bases.{IsOffered, IsRefined, OffersOne}
use Rattle.lift_walk.specs.Halved.{Halved, preorder_text}
use Rattle.lift_walk.specs.Shown.{Took}
use Rattle.lift_walk.specs.Sides.{GoesDown, sides_with_half}
use Rattle.lift_walk.specs.Steps.{AreHalves, GoesOn}
use Rattle.lift_walk.proofs.Shown as shown
use Rattle.lift_walk.proofs.Steps.{on_ok}

-- giving back the half that a walk went down to
pub gone_back : (k : CaseData) (depth axis : ℕ) (lower : Bool) (pool half down up : PoolData _) → GoesDown k depth axis lower pool → half ≡ sides_with_half lower axis pool → down ≡ half → up ≡ pool_without_last down → up ≡ pool
gone_back k depth axis lower pool half down up goes took same gave = gave ∙ ap (λ p. pool_without_last p) (same ∙ took) ∙ goes.back

module _ {O T Tip Rest : Type 0} (decides : Spans → Tip → Type 0) (opens : Spans → Type 0) (may : Spans → Tip → Type 0) (k : CaseData) (spans : Spans) (depth : ℕ) (known : Bool) (first : Halved Tip → Rest → Rest) (ahead after : Rest → Type 0) (is_part : Halved Tip → T → Type 0) (split_text : ℕ → List ℕ) (leaf_text : Tip → List ℕ) (unknown_text : List ℕ) (taken : O → Option (List ℕ)) (faults : O → ℕ)
    (axis : ℕ) (below : Bool) (halves : (t : Halved Tip) (rest : Rest) → IsOffered first ahead may k spans depth known t rest → AreHalves decides opens may k spans depth first after axis below t rest) where
  abbrev text : Halved Tip → List ℕ
  text t = preorder_text split_text leaf_text unknown_text t

  abbrev Whole : {E : Type 0} → (Rest → Type 0) → O → O → Result T E → Type 0
  Whole last old new result = GoesOn decides opens may k spans depth known first ahead last is_part text taken faults old new result

  abbrev Low : {E : Type 0} → (Rest → Type 0) → O → O → Result T E → Type 0
  Low between mid next result = GoesOn decides opens may k (lower_half axis spans) (depth + 1) below first after between is_part text taken faults mid next result

  abbrev Up : {E : Type 0} → (Rest → Type 0) → (Rest → Type 0) → O → O → Result T E → Type 0
  Up between last next new result = GoesOn decides opens may k (upper_half axis spans) (depth + 1) below first between last is_part text taken faults next new result

  -- a tree of the lower half is known
  pub lower_offered : OffersOne first ahead may k spans depth known → OffersOne first after may k (lower_half axis spans) (depth + 1) below
  lower_offered one = let h = halves one.0 one.1.0 one.1.1 in (h.lower, (_, h.low))

  abbrev Offered_up : (Rest → Type 0) → (t : Halved Tip) (rest : Rest) → IsOffered first ahead may k spans depth known t rest → Type 0
  Offered_up between t rest offered = IsOffered first between may k (upper_half axis spans) (depth + 1) below (halves t rest offered).upper rest

  -- that of the upper half comes once the lower one was walked over
  upper_is : {E : Type 0} (between : Rest → Type 0) (mid next : O) (p : T) → Low {E = E} between mid next (Ok p) → (t : Halved Tip) (rest : Rest) (offered : IsOffered first ahead may k spans depth known t rest) → Offered_up between t rest offered
  upper_is between mid next p low t rest offered =
      let h = halves t rest offered in
      record { ahead = (low h.lower _ h.low).1; none = h.none; base = h.base }

  pub upper_offered : {E : Type 0} (between : Rest → Type 0) (mid next : O) (p : T) → Low {E = E} between mid next (Ok p) → OffersOne first ahead may k spans depth known → OffersOne first between may k (upper_half axis spans) (depth + 1) below
  upper_offered between mid next p low one = ((halves one.0 one.1.0 one.1.1).upper, (one.1.0, upper_is between mid next p low one.0 one.1.0 one.1.1))

  abbrev Refined : Halved Tip → Halved Tip → Type 0
  Refined t refined = IsRefined decides opens k spans depth t refined

  abbrev Refined_low : Halved Tip → Halved Tip → Type 0
  Refined_low t refined = IsRefined decides opens k (lower_half axis spans) (depth + 1) t refined

  abbrev Refined_up : Halved Tip → Halved Tip → Type 0
  Refined_up t refined = IsRefined decides opens k (upper_half axis spans) (depth + 1) t refined

  -- a failure, before anything is ahead
  failed : {E : Type 0} (last : Rest → Type 0) (result : Result T E) → IsErr result → (rest : Rest) → OnOk result (last rest)
  failed last (Ok x) bad rest = absurd (cc)
  failed last (Err e) bad rest = tt

  -- the split's own entry failed
  pub split_stops : {U E F : Type 0} (last : Rest → Type 0) (old new : O) (e : E) (result : Result T F) → IsErr result → Took {T = U} taken faults old new (Err e) (split_text axis) → Whole last old new result
  split_stops last old new e result bad took t rest offered =
      let h = halves t rest offered in
      (shown.split_failed (Refined t) (Refined_low h.lower) (Refined_up h.upper) axis h.parted is_part split_text leaf_text unknown_text taken faults old new e result bad took, failed last result bad rest)

  module _ {A B : Type 0} (old mid : O) (x : A) (took : Took {E = B} taken faults old mid (Ok x) (split_text axis)) where
    -- the lower half failed
    pub lower_stops : {E F : Type 0} (between last : Rest → Type 0) (new : O) (e : E) (result : Result T F) → IsErr result → Low between mid new (Err e) → Whole last old new result
    lower_stops between last new e result bad low t rest offered =
        let h = halves t rest offered in
        let one = low h.lower _ h.low in
        (shown.first_failed (Refined t) (Refined_low h.lower) (Refined_up h.upper) axis h.parted is_part split_text leaf_text unknown_text taken faults old mid x took new e result bad one.0, failed last result bad rest)

    module _ {C : Type 0} (between : Rest → Type 0) (next : O) (p : T) (low : Low {E = C} between mid next (Ok p)) where
      -- the upper half failed
      pub upper_stops : {E F : Type 0} (last : Rest → Type 0) (new : O) (e : E) (result : Result T F) → IsErr result → Up between last next new (Err e) → Whole last old new result
      upper_stops last new e result bad up t rest offered =
          let h = halves t rest offered in
          let one = low h.lower _ h.low in
          let two = up h.upper rest (upper_is between mid next p low t rest offered) in
          (shown.second_failed (Refined t) (Refined_low h.lower) (Refined_up h.upper) axis h.parted is_part split_text leaf_text unknown_text taken faults old mid x took next p one.0 new e result bad two.0, failed last result bad rest)

      -- both halves were walked over
      pub both_go_on : {D E : Type 0} (last : Rest → Type 0) (new : O) (q : T) → Up {E = D} between last next new (Ok q) → (result : Result T E)
          → IfOk result (λ part. (a b : Halved Tip) → is_part a p → is_part b q → is_part (Halved.split axis a b) part) → OnErr result ((out : O) → Rose (faults out) (faults out)) → Whole last old new result
      both_go_on last new q up result part fault t rest offered =
          let h = halves t rest offered in
          let one = low h.lower _ h.low in
          let two = up h.upper rest (upper_is between mid next p low t rest offered) in
          (shown.both_shown (Refined t) (Refined_low h.lower) (Refined_up h.upper) axis h.parted is_part split_text leaf_text unknown_text taken faults old mid x took next p one.0 h.joined new q two.0 result part fault, on_ok (last rest) result two.1)
