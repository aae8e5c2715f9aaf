-- What a case gives at a valuation inside a rectangle, and the steps of its schedulers there.
use Rattle.std.proofs.Common.{◌≡◌, ℕ, zero, suc, ◌<◌, ◌≤◌, Bool, true, List, [], ◌∷◌, length, map, get_or, All, ℤ, pos, ◌+ℤ◌, ◌*ℤ◌, ◌≤ℤ◌, ◌<ℤ◌, refl, sym, ap, subst, ◌∙◌, arith, ◌⊎◌, ⊎_elim}
use Rattle.std.specs.List.{AllByRecursion}
use Rattle.std.proofs.lemmas.List.{get_or_past}
use Rattle.std.proofs.lemmas.List.Elements.{All-head, All-tail}
use Rattle.lift_poly.specs.Polynomial.{Valuation, weight, denominator}
use Rattle.lift_poly.proofs.Ring.{linear, mul-lt, mul-zero, one-mul, as_diff, diffs, diff-same}
use Rattle.lift_model.specs.Process.{Process, Move, power, weighted_sum}
use Rattle.lift_model.specs.Plan.{Plan, Fits}
use Rattle.lift_model.specs.Memoryless.{memoryless_reach}
use Rattle.lift_model.specs.Laws.{AreNonNegative}
use Rattle.lift_model.specs.declared.entry.Entry.{Entry}
use Rattle.lift_model.specs.Model.{choices, row_at, moves_at, process_at}
use Rattle.lift_grid.specs.Rectangle.{Spans, Inside}
use Rattle.corner_lift.specs.Case.{CaseData, IsCase, IsInside}
use Rattle.corner_lift.specs.Laws.{WeightsInside, SumsAreTotals}
use Rattle.reward_cert.specs.Expected.{memoryless_cost}
use Rattle.reward_cert.proofs.Steps.{AreClosed, mixed, plan_value, choice_value, step_of_plan, step_of_choice}
use Rattle.reward_cert.proofs.Bounding.{Stepping, Growing, power-least}

pub in_or_past : (s n : ℕ) → (s < n) ⊎ (n ≤ s)
in_or_past s n = grind arith

-- P holds of the moves of each row
all_moves : (P : List Move → Type 0) (v : Valuation) (rows : List (List Entry)) → All (λ row. P (moves_at v row)) rows → AllByRecursion P (map (moves_at v) rows)
all_moves P v [] h = tt
all_moves P v (row ∷ rows) h = let Holds : List Entry → Type 0 = λ (r : List Entry). P (moves_at v r) in (All-head Holds row rows h, all_moves P v rows (All-tail Holds row rows h))

-- P holds of what stands at a place, or beyond the last one
at_place : (P : List (List Entry) → Type 0) (states : List (List (List Entry))) (s : ℕ) → P [] → All P states → P (get_or states s [])
at_place P [] s none h = none
at_place P (state ∷ states) zero none h = All-head P state states h
at_place P (state ∷ states) (suc s) none h = at_place P states s none (All-tail P state states h)

denominator-positive : (d : ℤ) (ss : Spans) (v : Valuation) → Inside d ss v → pos 0 <ℤ denominator v
denominator-positive d [] [] h = omega (arith, linear)
denominator-positive d (s ∷ ss) (x ∷ v) h = omega (arith, linear, mul-lt x.1 (pos 0) (denominator v) h.0 (denominator-positive d ss v h.3), mul-zero x.1)
denominator-positive d [] (x ∷ v) h = absurd h
denominator-positive d (s ∷ ss) [] h = absurd h

moves_least : (v : Valuation) (row : List Entry) → All (λ entry. pos 0 ≤ℤ weight v entry.poly) row → AreNonNegative (moves_at v row)
moves_least v [] h = tt
moves_least v (e ∷ row) h = let least : Entry → Type 0 = λ entry. pos 0 ≤ℤ weight v entry.poly in (All-head least e row h, moves_least v row (All-tail least e row h))

moves_of : (v : Valuation) (rows : List (List Entry)) (i : ℕ) → get_or (map (moves_at v) rows) i [] ≡ moves_at v (get_or rows i [])
moves_of v [] i = refl
moves_of v (row ∷ rows) zero = refl
moves_of v (row ∷ rows) (suc i) = moves_of v rows i

-- P holds of a row of a list, or of no moves beyond the last
row_of_list : (P : List Move → Type 0) (rows : List (List Move)) (i : ℕ) → P [] → AllByRecursion P rows → P (get_or rows i [])
row_of_list P [] i none all = none
row_of_list P (row ∷ rows) zero none all = all.0
row_of_list P (row ∷ rows) (suc i) none all = row_of_list P rows i none all.1

map-length : {A B : Type 0} (f : A → B) (xs : List A) → length (map f xs) ≡ length xs
map-length f [] = refl
map-length f (x ∷ xs) = ap suc (map-length f xs)

-- each state is one of the test that knows all
abbrev pub every : ℕ → Bool
every s = true

pub all_closed : (moves : List Move) → AreClosed every moves
all_closed [] = tt
all_closed (m ∷ moves) = (omega (arith, linear, mul-zero m.1), all_closed moves)

-- the row of a choice
abbrev pub row_of : Process → ℕ → ℕ → List Move
row_of process s a = get_or (process.choices s) a []

scaled : (t c a b s : ℤ) → mixed (t *ℤ s) (c *ℤ s) a b ≡ mixed t c a b *ℤ s
scaled t c a b s = rw (as_diff t, as_diff c, as_diff a, as_diff b, as_diff s) (simp diffs (diff-same _ _ _ _ (omega arith)))

regrouped : (h t s : ℤ) → (h *ℤ t) *ℤ s ≡ h *ℤ (t *ℤ s)
regrouped h t s = rw (as_diff h, as_diff t, as_diff s) (simp diffs (diff-same _ _ _ _ (omega arith)))

-- ---- the steps of plans, and of memoryless schedulers

pub plan_stepping : (process : Process) (charge : ℕ → ℕ → ℕ) (q : ℕ) (top c : ℤ) → ((s : ℕ) → AllByRecursion AreNonNegative (process.choices s))
    → Stepping process.goal process.total (row_of process) (λ s a. a < length (process.choices s)) Plan (Fits process q) (plan_value process charge q top c) (λ s a. pos (charge s a) *ℤ top) q (power (pos q *ℤ process.total))
plan_stepping process charge q top c weights held number b scale n s p g fits below rows =
    let all = process.total *ℤ power (pos q *ℤ process.total) n in
    let step = step_of_plan process charge q (top *ℤ scale) (c *ℤ scale) held number b n s p g (weights s) fits
    (λ t r e fit. subst (λ z. number t ≤ℤ z) (sym (scaled top c _ _ scale)) (below t r e fit))
    (λ a lt. let row = rows a lt in (row.0, subst (λ z. b ≤ℤ (z *ℤ all +ℤ weighted_sum number (row_of process s a))) (regrouped (pos (charge s a)) top scale) row.1)) in
    subst (λ z. (pos q *ℤ b) ≤ℤ z) (scaled top c _ _ scale) step

pub choice_stepping : (process : Process) (charge : ℕ → ℕ → ℕ) (choice : ℕ → ℕ) (top c : ℤ) → ((s : ℕ) → AllByRecursion AreNonNegative (process.choices s))
    → Stepping process.goal process.total (row_of process) (λ s a. choice s ≡ a) (Unit {0}) (λ n s p. Unit {0}) (λ n s p. choice_value process charge choice top c n s) (λ s a. pos (charge s a) *ℤ top) 1 (power process.total)
choice_stepping process charge choice top c weights held number b scale n s p g fits below rows =
    let row = rows (choice s) refl in
    let step = step_of_choice process charge choice (top *ℤ scale) (c *ℤ scale) held number b n s g (row_of_list AreNonNegative (process.choices s) (choice s) tt (weights s))
    (λ t e. subst (λ z. number t ≤ℤ z) (sym (scaled top c (memoryless_cost process charge choice n t) (memoryless_reach process choice n t) scale)) (below t tt e tt))
    (row.0, subst (λ z. b ≤ℤ (z *ℤ power process.total (suc n) +ℤ weighted_sum number (row_of process s (choice s)))) (regrouped (pos (charge s (choice s))) top scale) row.1) in
    omega (arith, linear, one-mul b, subst (λ z. b ≤ℤ z) (scaled top c (memoryless_cost process charge choice (suc n) s) (memoryless_reach process choice (suc n) s) scale) step)

pub grown_plain : (total : ℤ) → pos 0 ≤ℤ total → Growing 1 total (power total)
grown_plain total least = (refl, ((λ n. ap (λ z. z *ℤ power total n) (sym (one-mul total))), λ n. power-least total n least))

-- ---- of a case

module _ (k : CaseData) (spans : Spans) (is : IsCase k) (within : IsInside k.root spans) (v : Valuation) (inside : Inside k.d spans v) where
  pub total-positive : pos 0 <ℤ (process_at k.model v).total
  total-positive =
      let common_least : pos 0 <ℤ k.model.common = omega (arith, linear, is.asked.model.denominator.0) in
      omega (arith, linear, mul-lt k.model.common (pos 0) (denominator v) common_least (denominator-positive k.d spans v inside), mul-zero k.model.common)

  pub weights-least : WeightsInside → (s : ℕ) → AllByRecursion AreNonNegative ((process_at k.model v).choices s)
  weights-least weights s = at_place (λ rows. AllByRecursion AreNonNegative (map (moves_at v) rows)) k.model.states s tt
      (λ i d lt. all_moves AreNonNegative v (get_or k.model.states i d) (λ a r at. moves_least v (get_or (get_or k.model.states i d) a r) (weights k spans v is within inside i d lt a r at)))

  pub row_weights : WeightsInside → (s a : ℕ) → AreNonNegative (row_of (process_at k.model v) s a)
  row_weights weights s a = row_of_list AreNonNegative ((process_at k.model v).choices s) a tt (weights-least weights s)

  -- the row of a choice is that of the model
  pub row_is : (s a : ℕ) → row_of (process_at k.model v) s a ≡ moves_at v (row_at k.model s a)
  row_is s a = moves_of v (choices k.model s) a

  pub choice_count : (s : ℕ) → length ((process_at k.model v).choices s) ≡ length (choices k.model s)
  choice_count s = map-length (moves_at v) (choices k.model s)

  pub choice_inside : (s a : ℕ) → a < length (choices k.model s) → s < length k.model.states
  choice_inside s a lt = ⊎_elim
      (λ (state : s < length k.model.states). state)
      (λ (past : length k.model.states ≤ s). absurd (let none = get_or_past k.model.states s [] past in omega (arith, lt, ap (length {A = List Entry}) none)))
      (in_or_past s (length k.model.states))

  -- its weights sum to the total
  pub row_total : SumsAreTotals → (s a : ℕ) → a < length (choices k.model s) → weighted_sum (λ t. pos 1) (row_of (process_at k.model v) s a) ≡ (process_at k.model v).total
  row_total sums s a lt =
      let state = choice_inside s a lt in
      ap (weighted_sum (λ t. pos 1)) (row_is s a) ∙ sums k.model (row_at k.model s a) v (is.admitted s [] state a [] lt).sum

  -- past the last state there is no row
  pub row_past : (s a : ℕ) → length k.model.states ≤ s → row_of (process_at k.model v) s a ≡ []
  row_past s a past = ap (λ rows. get_or (map (moves_at v) rows) a []) (get_or_past k.model.states s [] past)
