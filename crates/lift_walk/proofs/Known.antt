-- What a step comes to where the tree of the rectangle is known.
use Rattle.std.proofs.Common.{◌≡◌, ℕ, ◌+◌, ◌≤◌, Bool, true, false, true≢false, not, List, refl, sym, ap, subst, Option, Result}
use Rattle.lift_grid.specs.Rectangle.{Spans}
use Rattle.lift_grid.specs.Tree.{lower_half, upper_half}
use Rattle.corner_lift.specs.Case.{CaseData, greatest_depth}
use Rattle.lift_walk.specs.Bases.{IsBaseBy, IsOffered, IsRefined, MayStand, OffersOne, ahead_of}
use Rattle.lift_walk.specs.Given.{Gives}
use Rattle.lift_walk.specs.Halved.{Halved, IsHalvedOn}
use Rattle.lift_walk.specs.Shown.{Shows}
use Rattle.lift_walk.specs.Steps.{AreHalves, GoesOn}
use Rattle.lift_walk.specs.declared.given.Given.{Given}
use Rattle.lift_walk.specs.declared.given.Given.TheVariants.{Split, Leaf, Unknown}
use Rattle.lift_walk.proofs.Shown.{one_shown}
use Rattle.lift_walk.proofs.Steps.{on_ok}

-- a test that was turned
pub was_false : (b : Bool) → not b ≡ true → b ≡ false
was_false false e = refl
was_false true e = absurd (true≢false (sym e))

pub was_true : (b : Bool) → not b ≡ false → b ≡ true
was_true true e = refl
was_true false e = absurd (true≢false e)

-- whichever tree refines a split is one on the same axis
split_parted : {Tip : Type 0} (decides : Spans → Tip → Type 0) (opens : Spans → Type 0) (k : CaseData) (spans : Spans) (depth axis : ℕ) (lower upper refined : Halved Tip) → IsRefined decides opens k spans depth (Halved.split axis lower upper) refined
    → (a : Halved Tip) × ((b : Halved Tip) × ((refined ≡ Halved.split axis a b) × (IsRefined decides opens k (lower_half axis spans) (depth + 1) lower a × IsRefined decides opens k (upper_half axis spans) (depth + 1) upper b)))
split_parted decides opens k spans depth axis lower upper (Halved.split i a b) h = (a, (b, (ap (λ n. Halved.split n a b) (sym h.0), (h.1, h.2))))
split_parted decides opens k spans depth axis lower upper (Halved.leaf l) h = absurd h
split_parted decides opens k spans depth axis lower upper Halved.unknown h = absurd h

module _ {Tip Rest : Type 0} (may : Spans → Tip → Type 0) (k : CaseData) (spans : Spans) (depth : ℕ) (known : Bool) (first : Halved Tip → Rest → Rest) (ahead : Rest → Type 0) where
  -- the tree that is known comes first
  pub ahead_is : known ≡ true → (t : Halved Tip) (rest : Rest) → IsOffered first ahead may k spans depth known t rest → ahead (first t rest)
  ahead_is is t rest offered = subst (λ b. ahead (ahead_of first b t rest)) is offered.ahead

  -- where none is known, an unknown leaf stands for it
  pub none_is : known ≡ false → (t : Halved Tip) (rest : Rest) → IsOffered first ahead may k spans depth known t rest → (t ≡ Halved.unknown) × ahead rest
  none_is is t rest offered = (offered.none is, subst (λ b. ahead (ahead_of first b t rest)) is offered.ahead)

  -- an unknown leaf stands no deeper than halvings go
  pub none_stands : known ≡ false → OffersOne first ahead may k spans depth known → depth ≤ greatest_depth k
  none_stands is one = subst (IsBaseBy may k spans depth) (one.1.1.none is) one.1.1.base

  -- a tree that comes next may stand there
  pub next_is : known ≡ true → OffersOne first ahead may k spans depth known → (t : Halved Tip) × ((rest : Rest) × (ahead (first t rest) × MayStand may spans t))
  next_is is one = (one.0, (one.1.0, (ahead_is is one.0 one.1.0 one.1.1, may_stand one.0 one.1.1.base)))
    where
      may_stand : (t : Halved Tip) → IsBaseBy may k spans depth t → MayStand may spans t
      may_stand (Halved.leaf l) base = base
      may_stand (Halved.split axis lower upper) base = tt
      may_stand Halved.unknown base = tt

  module _ {O T E : Type 0} (decides : Spans → Tip → Type 0) (opens : Spans → Type 0) (after : Rest → Type 0) (is_part : Halved Tip → T → Type 0) (text : Halved Tip → List ℕ) (taken : O → Option (List ℕ)) (faults : O → ℕ) (old new : O) (is : known ≡ true) (given : Given (Result T E))
      (gives : (t : Halved Tip) (rest : Rest) → ahead (first t rest) → Gives first after (λ l. text (Halved.leaf l)) is_part taken faults old new t rest given) where
    -- what was given, whichever tree was known
    given_of : (t : Halved Tip) (rest : Rest) → IsOffered first ahead may k spans depth known t rest → Gives first after (λ l. text (Halved.leaf l)) is_part taken faults old new t rest given
    given_of t rest offered = gives t rest (ahead_is is t rest offered)

    -- a split, with the trees of its halves
    pub split_halves : (axis : ℕ) → given ≡ Split axis → (t : Halved Tip) (rest : Rest) → IsOffered first ahead may k spans depth known t rest → AreHalves decides opens may k spans depth first after axis true t rest
    split_halves axis e t rest offered =
        let g : Gives {E = E} first after (λ l. text (Halved.leaf l)) is_part taken faults old new t rest (Split axis) = subst (λ it. Gives {E = E} first after (λ l. text (Halved.leaf l)) is_part taken faults old new t rest it) e (given_of t rest offered) in
        let same : t ≡ Halved.split axis g.0 g.1.0 = g.1.1.0 in
        let base : IsBaseBy may k spans depth (Halved.split axis g.0 g.1.0) = subst (IsBaseBy may k spans depth) same offered.base in
        record {
          lower = g.0;
          upper = g.1.0;
          low = record { ahead = g.1.1.1.0; none = λ f. absurd (true≢false f); base = base.1 };
          none = λ f. absurd (true≢false f);
          base = base.2;
          joined = λ a b low up. subst (λ it. IsRefined decides opens k spans depth it (Halved.split axis a b)) (sym same) (refl, low, up);
          parted = λ refined h. split_parted decides opens k spans depth axis g.0 g.1.0 refined (subst (λ it. IsRefined decides opens k spans depth it refined) same h);
        }

    -- it stands where the rectangle may be halved, and nothing was taken
    pub split_stands : (axis : ℕ) → given ≡ Split axis → OffersOne first ahead may k spans depth known → IsHalvedOn k spans depth axis × (new ≡ old)
    split_stands axis e one =
        let g : Gives {E = E} first after (λ l. text (Halved.leaf l)) is_part taken faults old new one.0 one.1.0 (Split axis) = subst (λ it. Gives {E = E} first after (λ l. text (Halved.leaf l)) is_part taken faults old new one.0 one.1.0 it) e (given_of one.0 one.1.0 one.1.1) in
        let base : IsBaseBy may k spans depth (Halved.split axis g.0 g.1.0) = subst (IsBaseBy may k spans depth) g.1.1.0 one.1.1.base in
        (base.0, g.1.1.1.1)

    -- a leaf, which was taken
    pub leaf_goes_on : (result : Result T E) → given ≡ Leaf result → GoesOn decides opens may k spans depth known first ahead after is_part text taken faults old new result
    leaf_goes_on result e t rest offered =
        let g : Gives {E = E} first after (λ l. text (Halved.leaf l)) is_part taken faults old new t rest (Leaf result) = subst (λ it. Gives {E = E} first after (λ l. text (Halved.leaf l)) is_part taken faults old new t rest it) e (given_of t rest offered) in
        let tip = Halved.leaf g.0 in (
          subst (λ it. Shows (IsRefined decides opens k spans depth it) is_part text taken faults old new result) (sym g.1.0)
              (one_shown (IsRefined decides opens k spans depth tip) tip refl (λ other h. sym h) text taken faults is_part old new result g.1.1.1.1 g.1.1.1.0),
          on_ok (after rest) result g.1.1.0,
        )

    -- an unknown leaf: nothing was taken, and it stands no deeper than halvings go
    pub unknown_is : given ≡ Unknown → (t : Halved Tip) (rest : Rest) → IsOffered first ahead may k spans depth known t rest → (t ≡ Halved.unknown) × after rest
    unknown_is e t rest offered =
        let g : Gives {E = E} first after (λ l. text (Halved.leaf l)) is_part taken faults old new t rest Unknown = subst (λ it. Gives {E = E} first after (λ l. text (Halved.leaf l)) is_part taken faults old new t rest it) e (given_of t rest offered) in
        (g.0, g.1.0)

    pub unknown_stands : given ≡ Unknown → OffersOne first ahead may k spans depth known → (new ≡ old) × (depth ≤ greatest_depth k)
    unknown_stands e one =
        let g : Gives {E = E} first after (λ l. text (Halved.leaf l)) is_part taken faults old new one.0 one.1.0 Unknown = subst (λ it. Gives {E = E} first after (λ l. text (Halved.leaf l)) is_part taken faults old new one.0 one.1.0 it) e (given_of one.0 one.1.0 one.1.1) in
        let base : depth ≤ greatest_depth k = subst (IsBaseBy may k spans depth) g.0 one.1.1.base in
        (g.1.1, base)
