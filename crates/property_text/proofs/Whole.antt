-- Where every state is safe the cut changes nothing.
use Rattle.std.proofs.Common.{◌≡◌, ◌+◌, ◌<◌, ◌||◌, ℕ, zero, suc, Bool, true, false, List, [], ◌∷◌, length, map, refl, ap, ap₂, ◌∙◌, arith, cond}
use Rattle.std.specs.Prelude.{slice_index_or}
use Rattle.lift_poly.specs.Polynomial.{Term}
use Rattle.lift_model.specs.declared.entry.Entry.{Entry}
use Rattle.lift_model.specs.Model.{ModelData, is_goal}
use Rattle.property_text.specs.Restricted.{is_safe, is_kept, certain, staying, cut_from, restricted, all_safe}

-- with a place more
next_place : {X : Type 0} (f : ℕ → X) (first s : ℕ) → f (suc first + s) ≡ f (first + suc s)
next_place f first s = ap f (omega arith)

first_place : {X : Type 0} (f : ℕ → X) (first : ℕ) → f first ≡ f (first + 0)
first_place f first = ap f (omega arith)

-- states that are all kept
none_cut : (poly : List Term) (kept : ℕ → Bool) (first : ℕ) (states : List (List (List Entry))) → ((s : ℕ) → s < length states → kept (first + s) ≡ true) → cut_from poly kept first states ≡ states
none_cut poly kept first [] h = refl
none_cut poly kept first (rows ∷ states) h =
    let here : kept first ≡ true = first_place kept first ∙ h 0 (omega arith) in
    let rest = none_cut poly kept (suc first) states (λ s lt. next_place kept first s ∙ h (suc s) (omega (arith, lt))) in
    ap₂ (λ (b : Bool) (l : List (List (List Entry))). cond b rows (map (staying poly first) rows) ∷ l) here rest

all_true : (states : List (List (List Entry))) (s : ℕ) → s < length states → slice_index_or (map (λ rows. true) states) s false ≡ true
all_true [] s lt = absurd (omega (arith, lt))
all_true (rows ∷ states) zero lt = refl
all_true (rows ∷ states) (suc s) lt = all_true states s (omega (arith, lt))

or_true : (a b : Bool) → b ≡ true → (a || b) ≡ true
or_true true b e = refl
or_true false b e = e

pub cut_of_none : (m : ModelData) → restricted m (all_safe m) ≡ m
cut_of_none m =
    let kept = is_kept m (all_safe m) in
    let states = none_cut (certain m.common) kept 0 m.states (λ s lt. or_true (is_goal m (0 + s)) (is_safe (all_safe m) (0 + s)) (all_true m.states (0 + s) (omega (arith, lt)))) in
    ap (λ (l : List (List (List Entry))). record { kind = m.kind; common = m.common; names = m.names; goal = m.goal; init = m.init; states = l }) states
