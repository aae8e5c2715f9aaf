-- The lanes of a pool of vectors, while they are written one after the other.
use Rattle.std.proofs.Common.{◌≡◌, ◌≢◌, ℕ, ◌+◌, ◌^◌, ◌<◌, ◌≤◌, ◌⊎◌, ⊎_elim, Bool, true, false, cond, List, length, set, ℤ, pos, ◌≤ℤ◌, refl, sym, ap, subst, ◌∙◌, arith, length-set, get_or-set_same, get_or-set_other}
use Rattle.std.proofs.lemmas.List.{get_or_past, get_or_default}
use Rattle.lift_poly.proofs.Ring.{linear}
use Rattle.lift_pool.specs.Lanes.{PoolData}
use Rattle.lift_pool.specs.Shapes.{IsSameShape}
use Rattle.lift_grid.specs.Rectangle.{Spans}
use Rattle.lift_model.specs.Model.{is_goal}
use Rattle.corner_lift.specs.Case.{CaseData, IsCase, number}
use Rattle.corner_lift.specs.Certificate.{AreNumbers}
use Rattle.lift_bounded.specs.Steps.{nth, IsStart, IsLeastStep, IsGreatestStep}
use Rattle.lift_bounded.specs.Stepping.{StepsRise}
use Rattle.corner_lift.specs.Laws.{SumsRise}
use Rattle.corner_lift.specs.Case.{IsInside}
use Rattle.lift_bounded.specs.Lanes.{HasVectors, HaveRisen, HasChoices, HaveSunk}
use Rattle.lift_bounded.proofs.Making.{start_rises, next_rises}
use Rattle.lift_bounded.proofs.Inside.{in_or_past}

same_or_not : (i j : ℕ) → (i ≡ j) ⊎ (i ≢ j)
same_or_not i j = grind arith

either : (w : ℕ) (b : Bool) → (pos 0 ≤ℤ cond b (pos (2 ^ w)) (pos 0)) × (cond b (pos (2 ^ w)) (pos 0) ≤ℤ pos (2 ^ w))
either w true = (omega (arith, linear), omega (arith, linear))
either w false = (omega (arith, linear), omega (arith, linear))

-- the vector of no step was written
pub start_of : (k : CaseData) (x : List ℤ) → length k.model.goal ≡ length k.model.states → length x ≡ length k.model.states → ((i : ℕ) → i < length k.model.states → number x i ≡ cond (is_goal k.model i) (pos (2 ^ k.w)) (pos 0)) → IsStart k x
start_of k x goals size written = record {
  numbers = record {
    size = size;
    range = λ i d lt. subst (λ n. (pos 0 ≤ℤ n) × (n ≤ℤ pos (2 ^ k.w))) (sym (get_or_default x i d (pos 0) lt ∙ written i (omega (arith, lt, size)))) (either k.w (is_goal k.model i));
  };
  value = λ s. ⊎_elim
      (λ (lt : s < length k.model.states). written s lt)
      (λ (past : length k.model.states ≤ s).
      let none : is_goal k.model s ≡ false = get_or_past k.model.goal s false (omega (arith, past, goals)) in
      get_or_past x s (pos 0) (omega (arith, past, size)) ∙ sym (ap (λ b. cond b (pos (2 ^ k.w)) (pos 0)) none))
      (in_or_past s (length k.model.states));
}

nth_same : (lanes : List (List ℤ)) (n : ℕ) (x : List ℤ) → n < length lanes → nth (set lanes n x) n ≡ x
nth_same lanes n x lt = rw get_or-set_same refl

nth_other : (lanes : List (List ℤ)) (n i : ℕ) (x : List ℤ) → i ≢ n → nth (set lanes n x) i ≡ nth lanes i
nth_other lanes n i x ne = rw get_or-set_other refl

-- a lane that is written with as many words keeps all lengths
pub sizes_kept : (lanes : List (List ℤ)) (n : ℕ) (x : List ℤ) → n < length lanes → length x ≡ length (nth lanes n) → (i : ℕ) → length (nth (set lanes n x) i) ≡ length (nth lanes i)
sizes_kept lanes n x lt size i = ⊎_elim
    (λ (same : i ≡ n). subst (λ j. length (nth (set lanes n x) j) ≡ length (nth lanes j)) (sym same) (ap (length {A = ℤ}) (nth_same lanes n x lt) ∙ size))
    (λ (ne : i ≢ n). ap (length {A = ℤ}) (nth_other lanes n i x ne))
    (same_or_not i n)

has_vectors_kept : (k : CaseData) (h n : ℕ) (lanes : List (List ℤ)) (x : List ℤ) → HasVectors k h lanes → n ≤ h → length x ≡ length k.model.states → HasVectors k h (set lanes n x)
has_vectors_kept k h n lanes x has le size =
    let inside : n < length lanes = omega (arith, le, has.count) in
    record {
      count = length-set lanes n x ∙ has.count;
      sizes = λ i below. sizes_kept lanes n x inside (size ∙ sym (has.sizes n le)) i ∙ has.sizes i below;
    }

pub risen_none : (k : CaseData) (spans : Spans) (h : ℕ) (lanes : List (List ℤ)) (x : List ℤ) → HasVectors k h lanes → IsStart k x → HaveRisen k spans h 0 (set lanes 0 x)
risen_none k spans h lanes x has start =
    let at : nth (set lanes 0 x) 0 ≡ x = nth_same lanes 0 x (omega (arith, has.count)) in
    record {
      has = has_vectors_kept k h 0 lanes x has (omega arith) start.numbers.size;
      start = subst (IsStart k) (sym at) start;
      numbers = subst (AreNumbers k) (sym at) start.numbers;
      rises = subst (StepsRise k spans) (sym at) (start_rises k spans x start);
      steps = λ i lt. absurd (omega (arith, lt));
    }

pub risen_more : SumsRise → (k : CaseData) (spans : Spans) (h n : ℕ) (lanes : List (List ℤ)) (z : List ℤ) → IsCase k → IsInside k.root spans → n < h → HaveRisen k spans h n lanes → IsLeastStep k spans (nth lanes n) z → HaveRisen k spans h (n + 1) (set lanes (n + 1) z)
risen_more rise k spans h n lanes z is within lt risen step =
    let inside : n + 1 < length lanes = omega (arith, lt, risen.has.count) in
    let here : nth (set lanes (n + 1) z) (n + 1) ≡ z = nth_same lanes (n + 1) z inside in
    let first : nth (set lanes (n + 1) z) 0 ≡ nth lanes 0 = nth_other lanes (n + 1) 0 z (λ e. absurd (omega (arith, e))) in
    let before : nth (set lanes (n + 1) z) n ≡ nth lanes n = nth_other lanes (n + 1) n z (λ e. absurd (omega (arith, e))) in
    record {
      has = has_vectors_kept k h (n + 1) lanes z risen.has (omega (arith, lt)) step.upper.numbers.size;
      start = subst (IsStart k) (sym first) risen.start;
      numbers = subst (AreNumbers k) (sym here) step.upper.numbers;
      rises = subst (StepsRise k spans) (sym here) (next_rises rise k spans is within (nth lanes n) z risen.rises step);
      steps = λ i below. ⊎_elim
          (λ (same : i ≡ n). subst (λ j. IsLeastStep k spans (nth (set lanes (n + 1) z) j) (nth (set lanes (n + 1) z) (j + 1))) (sym same)
          (subst (λ y. IsLeastStep k spans y (nth (set lanes (n + 1) z) (n + 1))) (sym before) (subst (IsLeastStep k spans (nth lanes n)) (sym here) step)))
          (λ (ne : i ≢ n).
          let less : i < n = omega (arith, below, different i n below ne) in
          let at : nth (set lanes (n + 1) z) i ≡ nth lanes i = nth_other lanes (n + 1) i z (λ e. absurd (omega (arith, e, less))) in
          let next : nth (set lanes (n + 1) z) (i + 1) ≡ nth lanes (i + 1) = nth_other lanes (n + 1) (i + 1) z (λ e. absurd (omega (arith, e, less))) in
          subst (λ y. IsLeastStep k spans y (nth (set lanes (n + 1) z) (i + 1))) (sym at) (subst (IsLeastStep k spans (nth lanes i)) (sym next) (risen.steps i less)))
          (same_or_not i n);
    }
  where
    different : (i n : ℕ) → i < n + 1 → i ≢ n → i < n
    different i n lt ne = grind arith

-- ---- below, with picks

nth_marks_same : (lanes : List (List ℕ)) (n : ℕ) (x : List ℕ) → n < length lanes → nth (set lanes n x) n ≡ x
nth_marks_same lanes n x lt = rw get_or-set_same refl

nth_marks_other : (lanes : List (List ℕ)) (n i : ℕ) (x : List ℕ) → i ≢ n → nth (set lanes n x) i ≡ nth lanes i
nth_marks_other lanes n i x ne = rw get_or-set_other refl

pub sunk_none : (k : CaseData) (spans : Spans) (h : ℕ) (lanes : List (List ℤ)) (picks : List (List ℕ)) (x : List ℤ) → HasVectors k h lanes → HasChoices k h picks → IsStart k x → HaveSunk k spans h 0 (set lanes 0 x) picks
sunk_none k spans h lanes picks x has has_choices start =
    let at : nth (set lanes 0 x) 0 ≡ x = nth_same lanes 0 x (omega (arith, has.count)) in
    record {
      has = has_vectors_kept k h 0 lanes x has (omega arith) start.numbers.size;
      has_choices = has_choices;
      start = subst (IsStart k) (sym at) start;
      numbers = subst (AreNumbers k) (sym at) start.numbers;
      steps = λ i lt. absurd (omega (arith, lt));
    }

pub sunk_more : (k : CaseData) (spans : Spans) (h n : ℕ) (lanes : List (List ℤ)) (picks : List (List ℕ)) (z : List ℤ) (p : List ℕ) → n < h → HaveSunk k spans h n lanes picks → IsGreatestStep k spans (nth lanes n) z p → HaveSunk k spans h (n + 1) (set lanes (n + 1) z) (set picks n p)
sunk_more k spans h n lanes picks z p lt sunk step =
    let inside : n + 1 < length lanes = omega (arith, lt, sunk.has.count) in
    let choice_inside : n < length picks = omega (arith, lt, sunk.has_choices.count) in
    let here : nth (set lanes (n + 1) z) (n + 1) ≡ z = nth_same lanes (n + 1) z inside in
    let first : nth (set lanes (n + 1) z) 0 ≡ nth lanes 0 = nth_other lanes (n + 1) 0 z (λ e. absurd (omega (arith, e))) in
    let before : nth (set lanes (n + 1) z) n ≡ nth lanes n = nth_other lanes (n + 1) n z (λ e. absurd (omega (arith, e))) in
    let choice_here : nth (set picks n p) n ≡ p = nth_marks_same picks n p choice_inside in
    record {
      has = has_vectors_kept k h (n + 1) lanes z sunk.has (omega (arith, lt)) step.lower.numbers.size;
      has_choices = record {
        count = length-set picks n p ∙ sunk.has_choices.count;
        sizes = λ i below. ⊎_elim
            (λ (same : i ≡ n). subst (λ j. length (nth (set picks n p) j) ≡ length k.model.states) (sym same) (ap (length {A = ℕ}) choice_here ∙ step.lower.size))
            (λ (ne : i ≢ n). ap (length {A = ℕ}) (nth_marks_other picks n i p ne) ∙ sunk.has_choices.sizes i below)
            (same_or_not i n);
      };
      start = subst (IsStart k) (sym first) sunk.start;
      numbers = subst (AreNumbers k) (sym here) step.lower.numbers;
      steps = λ i below. ⊎_elim
          (λ (same : i ≡ n). subst (λ j. IsGreatestStep k spans (nth (set lanes (n + 1) z) j) (nth (set lanes (n + 1) z) (j + 1)) (nth (set picks n p) j)) (sym same)
          (subst (λ y. IsGreatestStep k spans y (nth (set lanes (n + 1) z) (n + 1)) (nth (set picks n p) n)) (sym before)
          (subst (λ y. IsGreatestStep k spans (nth lanes n) y (nth (set picks n p) n)) (sym here)
          (subst (IsGreatestStep k spans (nth lanes n) z) (sym choice_here) step))))
          (λ (ne : i ≢ n).
          let less : i < n = omega (arith, below, earlier i n below ne) in
          let at : nth (set lanes (n + 1) z) i ≡ nth lanes i = nth_other lanes (n + 1) i z (λ e. absurd (omega (arith, e, less))) in
          let next : nth (set lanes (n + 1) z) (i + 1) ≡ nth lanes (i + 1) = nth_other lanes (n + 1) (i + 1) z (λ e. absurd (omega (arith, e, less))) in
          let choice_at : nth (set picks n p) i ≡ nth picks i = nth_marks_other picks n i p ne in
          subst (λ y. IsGreatestStep k spans y (nth (set lanes (n + 1) z) (i + 1)) (nth (set picks n p) i)) (sym at)
          (subst (λ y. IsGreatestStep k spans (nth lanes i) y (nth (set picks n p) i)) (sym next)
          (subst (IsGreatestStep k spans (nth lanes i) (nth lanes (i + 1))) (sym choice_at) (sunk.steps i less))))
          (same_or_not i n);
    }
  where
    earlier : (i n : ℕ) → i < n + 1 → i ≢ n → i < n
    earlier i n lt ne = grind arith

-- ---- where a step brings no other vector

pub still_upper : (k : CaseData) (spans : Spans) (lanes : List (List ℤ)) (n : ℕ) (y z : List ℤ) → n < length lanes → y ≡ z → IsLeastStep k spans y z → (nth (set lanes n z) n ≡ z) × IsLeastStep k spans (nth (set lanes n z) n) z
still_upper k spans lanes n y z lt same step =
    let at = nth_same lanes n z lt in
    (at, subst (λ x. IsLeastStep k spans x z) (same ∙ sym at) step)

pub still_lower : (k : CaseData) (spans : Spans) (lanes : List (List ℤ)) (n : ℕ) (y z : List ℤ) (picks : List ℕ) → n < length lanes → y ≡ z → IsGreatestStep k spans y z picks → (nth (set lanes n z) n ≡ z) × IsGreatestStep k spans (nth (set lanes n z) n) z picks
still_lower k spans lanes n y z picks lt same step =
    let at = nth_same lanes n z lt in
    (at, subst (λ x. IsGreatestStep k spans x z picks) (same ∙ sym at) step)

-- ---- shapes

module _ {T : Type 0} where
  pub same_shape : (p : PoolData T) → IsSameShape p p
  same_shape p = record { lanes = refl; spare = refl; spare_lanes = refl }

  pub shape_then : (p q r : PoolData T) → IsSameShape p q → IsSameShape q r → IsSameShape p r
  shape_then p q r a b = record { lanes = b.lanes ∙ a.lanes; spare = b.spare ∙ a.spare; spare_lanes = b.spare_lanes ∙ a.spare_lanes }
