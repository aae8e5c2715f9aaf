-- How a vector is lowered to the greatest lower vector.
use Rattle.std.proofs.Common.{◌≡◌, ◌≢◌, ℕ, zero, suc, ◌+◌, ◌^◌, ◌<◌, ◌≤◌, ◌⊎◌, inl, inr, ⊎_elim, Bool, true, false, List, [], ◌∷◌, length, get_or, set, take, sum_by, All, ℤ, pos, ◌-ℤ◌, ◌*ℤ◌, ◌≤ℤ◌, ◌<ℤ◌, refl, sym, ap, subst, ◌∙◌, arith, nat_lt, true≢false, ltb-true, ltb-false, length-set, get_or-set_same, get_or-set_other}
use Rattle.std.proofs.lemmas.Int.{ints}
use Rattle.std.proofs.lemmas.List.Elements.{All-nil, All-cons}
use Rattle.std.proofs.lemmas.List.Sums.{sum_by-cons}
use Rattle.lift_poly.proofs.Ring.{linear, mul-comm, mul-zero, mul-le}
use Rattle.lift_grid.specs.Rectangle.{Spans}
use Rattle.lift_model.specs.declared.entry.Entry.{Entry}
use Rattle.lift_model.specs.Process.{power}
use Rattle.lift_model.specs.Model.{is_goal, choices, row_at, support}
use Rattle.lift_model.specs.Links.{row_number}
use Rattle.corner_lift.specs.Corner.{whole, parameter_count}
use Rattle.corner_lift.specs.Case.{CaseData, IsCase, IsInside, number, row_value, row_whole, corner_count}
use Rattle.corner_lift.specs.Certificate.{unmarked, mark}
use Rattle.corner_lift.specs.Laws.{NumbersAreInRange, ParametersAreTheRoots}
use Rattle.corner_lift.specs.Stages.{IsAllowed}
use Rattle.lower_cert.specs.Lowering.{IsHigh, IsRanked, AreFlaggedBefore, IsFlagged, IsStuckLevel, IsLoweredAt, total}
use Rattle.lower_cert.specs.Laws.{is_stuck, CappingKeepsUnder, StuckAreCapped}
use Rattle.lower_cert.proofs.Means.{Place, either_way, level, mono, positive, same_or_less, same_or_not}
use Rattle.lower_cert.proofs.Stuck.{stuck_parts}
use Rattle.lower_cert.proofs.Heights.{rank-fits, below-no, mark-beyond}

-- ---- vectors

pub all_from : (P : ℤ → Type 0) (x : List ℤ) → ((t : ℕ) → t < length x → P (number x t)) → All P x
all_from P [] h = All-nil P
all_from P (n ∷ x) h = All-cons P n x (h 0 (omega arith)) (all_from P x (λ t lt. h (suc t) (omega (arith, lt))))

goal_inside : (xs : List Bool) (s : ℕ) → get_or xs s false ≡ true → s < length xs
goal_inside [] s e = absurd (true≢false (sym e))
goal_inside (x ∷ xs) zero e = omega arith
goal_inside (x ∷ xs) (suc s) e = omega (arith, goal_inside xs s e)

number_past : (x : List ℤ) (s : ℕ) → length x ≤ s → number x s ≡ pos 0
number_past [] s h = refl
number_past (n ∷ x) zero h = absurd (omega (arith, h))
number_past (n ∷ x) (suc s) h = number_past x s (omega (arith, h))

-- 1 everywhere is at or above every lower vector
pub start_high : NumbersAreInRange → (k : CaseData) (spans : Spans) (x : List ℤ) → IsCase k → length x ≡ length k.model.states → ((t : ℕ) → t < length x → number x t ≡ pos (2 ^ k.w)) → IsHigh k spans x
start_high ranges k spans x is size all =
    record {
      numbers = record { size = size; range = all_from (λ n. (pos 0 ≤ℤ n) × (n ≤ℤ pos (2 ^ k.w))) x (λ t lt. (omega (arith, linear, all t lt), omega (arith, linear, all t lt))) };
      goal = λ s g. all s (omega (arith, goal_inside k.model.goal s g, is.asked.model.goals, size));
      above = λ r h under s.
          either_way (nat_lt s (length x))
          (λ e. omega (arith, linear, all s (ltb-true s (length x) e), (ranges k r.numbers s h.numbers).1))
          (λ e. let past = ltb-false s (length x) e in omega (arith, linear, number_past x s past, number_past r.numbers s (omega (arith, past, size, h.numbers.size))));
    }

-- ---- what is allowed

-- a choice is allowed where its mean is at least the state's number at each corner
pub held_is : ParametersAreTheRoots → (k : CaseData) (spans : Spans) (x : List ℤ) (s a : ℕ) → IsInside k.root spans
    → (((c : ℕ) → c < corner_count k s a → (number x s *ℤ row_whole k s a) ≤ℤ row_value k spans s a x c) → IsAllowed k spans (number x) s a)
    × (IsAllowed k spans (number x) s a → (c : ℕ) → c < corner_count k s a → (number x s *ℤ row_whole k s a) ≤ℤ row_value k spans s a x c)
held_is parameters k spans x s a within =
    let row = row_at k.model s a in
    let same : parameter_count spans (support row) ≡ parameter_count k.root (support row) = parameters k spans row within.within in
    let wholes : number x s *ℤ whole k.model k.d spans row ≡ number x s *ℤ row_whole k s a = ap (λ n. number x s *ℤ (k.model.common *ℤ power k.d n)) same in (
      λ held c lt. omega (arith, linear, held c (subst (λ n. c < 2 ^ n) same lt), wholes),
      λ h c lt. omega (arith, linear, h c (subst (λ n. c < 2 ^ n) (sym same) lt), wholes),
    )

module _ (k : CaseData) (spans : Spans) (place : Place k spans) (x : List ℤ) (s a : ℕ) (choice : a < length (choices k.model s)) where
  abbrev full : ℤ
  full = whole k.model k.d spans (row_at k.model s a)

  -- each choice holds 0
  pub zero_allowed : ((t : ℕ) → pos 0 ≤ℤ number x t) → number x s ≤ℤ pos 0 → IsAllowed k spans (number x) s a
  zero_allowed least le c lt = omega (arith, linear, mono k spans place s a choice c (λ t. pos 0) (number x) least, level k spans place s a choice c lt (pos 0), mul-zero full, mul-le full (number x s) (pos 0) (let p = positive k spans place s a choice in omega (arith, linear, p)) le, mul-comm full (number x s))

first_more : (x : List (List Entry)) (rows : List (List (List Entry))) (s : ℕ) → sum_by length (take (suc s) (x ∷ rows)) ≡ length x + sum_by length (take s rows)
first_more x rows s = sum_by-cons length x (take s rows)

row_past : (rows : List (List (List Entry))) (t s b : ℕ) → t < s → b < length (get_or rows t []) → sum_by length (take t rows) + b < sum_by length (take s rows)
row_past [] t s b lt inside = absurd (omega (arith, inside))
row_past (x ∷ rows) t zero b lt inside = absurd (omega (arith, lt))
row_past (x ∷ rows) zero (suc s) b lt inside = let now = first_more x rows s in omega (arith, inside, now)
row_past (x ∷ rows) (suc t) (suc s) b lt inside = let now = first_more x rows s in let old = first_more x rows t in omega (arith, now, old, row_past rows t s b (omega (arith, lt)) inside)

pub row_inside : (rows : List (List (List Entry))) (s a : ℕ) → a < length (get_or rows s []) → sum_by length (take s rows) + a < sum_by length rows
row_inside [] s a inside = absurd (omega (arith, inside))
row_inside (x ∷ rows) zero a inside = let now = sum_by-cons length x rows in omega (arith, inside, now)
row_inside (x ∷ rows) (suc s) a inside = let now = sum_by-cons length x rows in let old = first_more x rows s in omega (arith, now, old, row_inside rows s a inside)

module _ (k : CaseData) (spans : Spans) (x : List ℤ) (allowed : List ℕ) (s a : ℕ) (flagged : AreFlaggedBefore k spans x allowed s a) where
  -- the next row is told
  pub flagged_next : (v : ℕ) → row_number k.model s a < length allowed → ((nat_lt 0 v ≡ true → IsAllowed k spans (number x) s a) × (IsAllowed k spans (number x) s a → nat_lt 0 v ≡ true)) → AreFlaggedBefore k spans x (set allowed (row_number k.model s a) v) s (a + 1)
  flagged_next v room here t b has before =
      ⊎_elim
      (λ (l : t < s). earlier (omega (arith, row_past k.model.states t s b l has.choice)) (inl l))
      (λ (e : (t ≡ s) × (b < a + 1)).
      ⊎_elim
      (λ (l : b < a). earlier (same_state e.0 l) (inr (e.0, l)))
      (λ (q : b ≡ a). at_it e.0 q)
      (same_or_less b a e.1))
      before
    where
      same_state : t ≡ s → b < a → row_number k.model t b < row_number k.model s a
      same_state e l = subst (λ i. row_number k.model t b < row_number k.model i a) e (omega (arith, l))

      earlier : row_number k.model t b < row_number k.model s a → (t < s) ⊎ ((t ≡ s) × (b < a)) → IsFlagged k spans x (set allowed (row_number k.model s a) v) t b
      earlier less old =
          let ne : row_number k.model t b ≢ row_number k.model s a = grind (arith, less) in
          let same : get_or (set allowed (row_number k.model s a) v) (row_number k.model t b) 0 ≡ get_or allowed (row_number k.model t b) 0 = rw get_or-set_other refl in
          subst (λ n. (nat_lt 0 n ≡ true → IsAllowed k spans (number x) t b) × (IsAllowed k spans (number x) t b → nat_lt 0 n ≡ true)) (sym same) (flagged t b has old)

      at_it : t ≡ s → b ≡ a → IsFlagged k spans x (set allowed (row_number k.model s a) v) t b
      at_it e q =
          let same : get_or (set allowed (row_number k.model s a) v) (row_number k.model s a) 0 ≡ v = rw get_or-set_same refl in
          subst (λ i. IsFlagged k spans x (set allowed (row_number k.model s a) v) i b) (sym e)
          (subst (λ j. IsFlagged k spans x (set allowed (row_number k.model s a) v) s j) (sym q)
          (subst (λ n. (nat_lt 0 n ≡ true → IsAllowed k spans (number x) s a) × (IsAllowed k spans (number x) s a → nat_lt 0 n ≡ true)) (sym same) here))

  -- so are all rows of the state
  pub flagged_state : length (choices k.model s) ≤ a → AreFlaggedBefore k spans x allowed (s + 1) 0
  flagged_state all t b has before =
      ⊎_elim
      (λ (l : t < s + 1).
      ⊎_elim
      (λ (less : t < s). flagged t b has (inl less))
      (λ (e : t ≡ s). flagged t b has (inr (e, choice_less e)))
      (same_or_less t s l))
      (λ (e : (t ≡ s + 1) × (b < 0)). absurd (omega (arith, e.1)))
      before
    where
      choice_less : t ≡ s → b < a
      choice_less e = let inside : b < length (choices k.model s) = subst (λ i. b < length (choices k.model i)) e has.choice in omega (arith, inside, all)

-- ---- lowering

number_same : (x : List ℤ) (s : ℕ) (v : ℤ) → s < length x → number (set x s v) s ≡ v
number_same x s v lt = rw get_or-set_same refl

number_other : (x : List ℤ) (s t : ℕ) (v : ℤ) → t ≢ s → number (set x s v) t ≡ number x t
number_other x s t v ne = rw get_or-set_other refl

abbrev pub Rest : List ℤ → List ℤ → ℕ → Type 0
Rest old new s = (t : ℕ) → s ≤ t → number new t ≡ number old t

pub lower_step : (old new : List ℤ) (ranks : List ℕ) (v r : ℤ) (s : ℕ) → s < length new → IsLoweredAt old new ranks v s × Rest old new s
    → ((unmarked ≤ mark ranks s) × (number new s ≡ v) × (r ≡ v -ℤ pos 1)) ⊎ ((r ≡ number new s) × (unmarked ≤ mark ranks s → number new s ≡ v → ⊥))
    → IsLoweredAt old (set new s r) ranks v (s + 1) × Rest old (set new s r) (s + 1)
lower_step old new ranks v r s room (low, rest) is = (
  record {
    size = length-set new s r ∙ low.size;
    each = λ t. ⊎_elim (λ (e : t ≡ s). subst (λ i. Each i) (sym e) each_here) (λ (ne : t ≢ s). subst (λ n. EachOf t n) (sym (number_other new s t r ne)) (low.each t)) (same_or_not t s);
    done = λ t lt free at. ⊎_elim
        (λ (e : t ≡ s). ap (λ i. number (set new s r) i) e ∙ done_here (subst (λ i. unmarked ≤ mark ranks i) e free) (subst (λ i. number old i ≡ v) e at))
        (λ (ne : t ≢ s). number_other new s t r ne ∙ low.done t (less t lt ne) free at)
        (same_or_not t s);
  },
  λ t le. number_other new s t r (past t le) ∙ rest t (omega (arith, le)),
)
  where
    EachOf : ℕ → ℤ → Type 0
    EachOf t n = (n ≡ number old t) ⊎ ((unmarked ≤ mark ranks t) × ((number old t ≡ v) × (n ≡ v -ℤ pos 1)))

    Each : ℕ → Type 0
    Each t = EachOf t (number (set new s r) t)

    was : number new s ≡ number old s
    was = rest s (omega arith)

    here : number (set new s r) s ≡ r
    here = number_same new s r room

    each_here : Each s
    each_here =
        ⊎_elim
        (λ (low_one : (unmarked ≤ mark ranks s) × (number new s ≡ v) × (r ≡ v -ℤ pos 1)). inr (low_one.0, (sym was ∙ low_one.1, here ∙ low_one.2)))
        (λ (kept : (r ≡ number new s) × (unmarked ≤ mark ranks s → number new s ≡ v → ⊥)). inl (here ∙ kept.0 ∙ was))
        is

    done_here : unmarked ≤ mark ranks s → number old s ≡ v → number (set new s r) s ≡ v -ℤ pos 1
    done_here free at =
        ⊎_elim
        (λ (low_one : (unmarked ≤ mark ranks s) × (number new s ≡ v) × (r ≡ v -ℤ pos 1)). here ∙ low_one.2)
        (λ (kept : (r ≡ number new s) × (unmarked ≤ mark ranks s → number new s ≡ v → ⊥)). absurd (kept.1 free (was ∙ at)))
        is

    less : (t : ℕ) → t < s + 1 → t ≢ s → t < s
    less t lt ne = ⊎_elim (λ (l : t < s). l) (λ (e : t ≡ s). absurd (ne e)) (same_or_less t s lt)

    past : (t : ℕ) → s + 1 ≤ t → t ≢ s
    past t le = grind (arith, le)

pub total_most : (old new : List ℤ) → length new ≡ length old → ((t : ℕ) → (pos 0 ≤ℤ number new t) × (number new t ≤ℤ number old t)) → total new ≤ total old
total_most [] [] size le = omega arith
total_most (n ∷ old) [] size le = omega arith
total_most [] (m ∷ new) size le = absurd (omega (arith, size))
total_most (n ∷ old) (m ∷ new) size le = let h = total_most old new (omega (arith, size)) (λ t. le (suc t)) in let low = (le 0).0 in let most = (le 0).1 in omega (arith, ints, h, low, most)

total_less : (old new : List ℤ) → length new ≡ length old → ((t : ℕ) → (pos 0 ≤ℤ number new t) × (number new t ≤ℤ number old t)) → (s : ℕ) → s < length old → number new s <ℤ number old s → total new < total old
total_less [] new size le s lt less = absurd (omega (arith, lt))
total_less (n ∷ old) [] size le s lt less = absurd (omega (arith, size))
total_less (n ∷ old) (m ∷ new) size le zero lt less = let h = total_most old new (omega (arith, size)) (λ t. le (suc t)) in let low = (le 0).0 in omega (arith, ints, h, low, less)
total_less (n ∷ old) (m ∷ new) size le (suc s) lt less = let h = total_less old new (omega (arith, size)) (λ t. le (suc t)) s (omega (arith, lt)) less in let low = (le 0).0 in let most = (le 0).1 in omega (arith, ints, h, low, most)

module _ (keeps : CappingKeepsUnder) (stuck : StuckAreCapped) (ranges : NumbersAreInRange) (k : CaseData) (spans : Spans) (old new : List ℤ) (ranks picks : List ℕ) (v : ℤ) (is : IsCase k) (within : IsInside k.root spans) (high : IsHigh k spans old) (ranked : IsRanked k spans old picks ranks) (at : IsStuckLevel old ranks (length old) v) (positive : pos 0 <ℤ v) (low : IsLoweredAt old new ranks v (length old)) where
  abbrev Each : ℕ → Type 0
  Each t = (number new t ≡ number old t) ⊎ ((unmarked ≤ mark ranks t) × ((number old t ≡ v) × (number new t ≡ v -ℤ pos 1)))

  bounds : (t : ℕ) → (pos 0 ≤ℤ number new t) × (number new t ≤ℤ number old t)
  bounds t =
      let r = ranges k old t high.numbers in
      ⊎_elim
      (λ (e : number new t ≡ number old t). (omega (arith, linear, e, r.0), omega (arith, linear, e)))
      (λ (d : (unmarked ≤ mark ranks t) × ((number old t ≡ v) × (number new t ≡ v -ℤ pos 1))). (omega (arith, linear, d.1.1, positive), omega (arith, linear, d.1.1, d.1.0)))
      (low.each t)

  not_goal : (t : ℕ) → unmarked ≤ mark ranks t → is_goal k.model t ≡ false
  not_goal t free = either_way (is_goal k.model t) (λ g. absurd (omega (arith, free, ranked.stages.goal t g))) (λ g. g)

  capped_keeps : (r : ℕ) → (z : ℕ) → is_goal k.model z ≡ false → unmarked ≤ mark ranks z → is_stuck k (mark ranks) z ≡ true
  capped_keeps r z g free = rw (g, below-no (mark ranks z) unmarked free) refl

  pub high_after : IsHigh k spans new
  high_after =
      let n = length k.model.states in
      let beyond : (t : ℕ) → n ≤ t → unmarked ≤ mark ranks t = λ t le. mark-beyond ranks t (omega (arith, le, ranked.sizes.1)) in
      let capped = stuck k spans (number old) v (mark picks) (mark ranks) n is within (omega (arith, is.asked.model.count.1)) ranked.stages
      (λ s small. let fits = rank-fits k spans _ (mark picks) (mark ranks) ranked.stages n beyond s small in omega (arith, fits))
      (λ s e. let free = (stuck_parts (is_goal k.model s) (mark ranks s) e).1 in
      either_way (nat_lt s (length old)) (λ b. at.most s (ltb-true s (length old) b) free) (λ b. omega (arith, linear, number_past old s (ltb-false s (length old) b), positive))) in
      record {
        numbers = record { size = low.size ∙ high.numbers.size; range = all_from (λ i. (pos 0 ≤ℤ i) × (i ≤ℤ pos (2 ^ k.w))) new (λ t lt. let b = bounds t in (b.0, omega (arith, linear, b.1, (ranges k old t high.numbers).1))) };
        goal = λ s g. ⊎_elim
            (λ (e : number new s ≡ number old s). e ∙ high.goal s g)
            (λ (d : (unmarked ≤ mark ranks s) × ((number old s ≡ v) × (number new s ≡ v -ℤ pos 1))). absurd (omega (arith, d.0, ranked.stages.goal s g)))
            (low.each s);
        above = keeps k spans (is_stuck k (mark ranks)) (λ s. pos (2 ^ k.w)) (number old) v (number new) is within (λ s e. (stuck_parts (is_goal k.model s) (mark ranks s) e).0) positive high.above capped
            (λ s. ⊎_elim
            (λ (e : number new s ≡ number old s). inl (omega (arith, linear, e)))
            (λ (d : (unmarked ≤ mark ranks s) × ((number old s ≡ v) × (number new s ≡ v -ℤ pos 1))). inr (capped_keeps 0 s (not_goal s d.0) d.0, omega (arith, linear, d.1.1)))
            (low.each s));
      }

  pub total_after : total new < total old
  total_after =
      let one = at.attained positive in
      let down = low.done one.0 one.1.0 one.1.1 one.1.2 in
      total_less old new low.size bounds one.0 one.1.0 (omega (arith, linear, down, one.1.2))
