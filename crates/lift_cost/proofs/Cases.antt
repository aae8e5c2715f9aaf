-- What a case gives at a valuation inside a rectangle.
use Rattle.std.proofs.Common.{◌≡◌, ℕ, zero, suc, ◌<◌, ◌≤◌, Bool, true, false, List, [], ◌∷◌, length, map, get_or, All, ℤ, pos, ◌*ℤ◌, ◌≤ℤ◌, ◌<ℤ◌, refl, sym, ap, ◌∙◌, arith, ◌⊎◌, inl, inr}
use Rattle.std.specs.List.{AllByRecursion}
use Rattle.std.proofs.lemmas.List.{get_or_past}
use Rattle.std.proofs.lemmas.List.Elements.{All-head, All-tail}
use Rattle.lift_poly.specs.Polynomial.{Valuation, weight, denominator}
use Rattle.lift_poly.proofs.Ring.{linear, mul-nonneg, mul-lt, mul-zero}
use Rattle.lift_model.specs.Process.{Move, power, weighted_sum}
use Rattle.lift_model.specs.Memoryless.{chosen}
use Rattle.lift_model.specs.Laws.{AreNonNegative}
use Rattle.lift_model.specs.declared.entry.Entry.{Entry}
use Rattle.lift_model.specs.Model.{ModelData, choices, row_at, moves_at, process_at}
use Rattle.lift_grid.specs.Rectangle.{Spans, Inside}
use Rattle.corner_lift.specs.Case.{CaseData, IsCase, IsInside}
use Rattle.corner_lift.specs.Laws.{WeightsInside}

-- P holds of the moves of each row
pub all_moves : (P : List Move → Type 0) (v : Valuation) (rows : List (List Entry)) → All (λ row. P (moves_at v row)) rows → AllByRecursion P (map (moves_at v) rows)
all_moves P v [] h = tt
all_moves P v (row ∷ rows) h = let Holds : List Entry → Type 0 = λ (r : List Entry). P (moves_at v r) in (All-head Holds row rows h, all_moves P v rows (All-tail Holds row rows h))

-- P holds of what stands at a place, or beyond the last one
at_place : (P : List (List Entry) → Type 0) (states : List (List (List Entry))) (s : ℕ) → P [] → All P states → P (get_or states s [])
at_place P [] s none h = none
at_place P (state ∷ states) zero none h = All-head P state states h
at_place P (state ∷ states) (suc s) none h = at_place P states s none (All-tail P state states h)

denominator-positive : (d : ℤ) (ss : Spans) (v : Valuation) → Inside d ss v → pos 0 <ℤ denominator v
denominator-positive d [] [] h = omega (arith, linear)
denominator-positive d (s ∷ ss) (x ∷ v) h = omega (arith, linear, mul-lt x.1 (pos 0) (denominator v) h.0 (denominator-positive d ss v h.3), mul-zero x.1)
denominator-positive d [] (x ∷ v) h = absurd h
denominator-positive d (s ∷ ss) [] h = absurd h

moves_least : (v : Valuation) (row : List Entry) → All (λ entry. pos 0 ≤ℤ weight v entry.poly) row → AreNonNegative (moves_at v row)
moves_least v [] h = tt
moves_least v (e ∷ row) h = let least : Entry → Type 0 = λ entry. pos 0 ≤ℤ weight v entry.poly in (All-head least e row h, moves_least v row (All-tail least e row h))

pub power-positive : (b : ℤ) (n : ℕ) → pos 0 <ℤ b → pos 0 <ℤ power b n
power-positive b zero h = omega (arith, linear)
power-positive b (suc n) h = omega (arith, linear, mul-lt b (pos 0) (power b n) h (power-positive b n h), mul-zero b)

pub power-least : (b : ℤ) (n : ℕ) → pos 0 ≤ℤ b → pos 0 ≤ℤ power b n
power-least b zero h = omega (arith, linear)
power-least b (suc n) h = mul-nonneg b (power b n) h (power-least b n h)

moves_of : (v : Valuation) (rows : List (List Entry)) (i : ℕ) → get_or (map (moves_at v) rows) i [] ≡ moves_at v (get_or rows i [])
moves_of v [] i = refl
moves_of v (row ∷ rows) zero = refl
moves_of v (row ∷ rows) (suc i) = moves_of v rows i

-- P holds of a row of a list, or of no moves beyond the last
row_of_list : (P : List Move → Type 0) (rows : List (List Move)) (i : ℕ) → P [] → AllByRecursion P rows → P (get_or rows i [])
row_of_list P [] i none all = none
row_of_list P (row ∷ rows) zero none all = all.0
row_of_list P (row ∷ rows) (suc i) none all = row_of_list P rows i none all.1

module _ (weights : WeightsInside) (k : CaseData) (spans : Spans) (is : IsCase k) (within : IsInside k.root spans) (v : Valuation) (inside : Inside k.d spans v) where
  pub total-positive : pos 0 <ℤ (process_at k.model v).total
  total-positive =
      let common_least : pos 0 <ℤ k.model.common = omega (arith, linear, is.asked.model.denominator.0) in
      omega (arith, linear, mul-lt k.model.common (pos 0) (denominator v) common_least (denominator-positive k.d spans v inside), mul-zero k.model.common)

  pub weights-least : (s : ℕ) → AllByRecursion AreNonNegative ((process_at k.model v).choices s)
  weights-least s = at_place (λ rows. AllByRecursion AreNonNegative (map (moves_at v) rows)) k.model.states s tt
      (λ i d lt. all_moves AreNonNegative v (get_or k.model.states i d) (λ a r at. moves_least v (get_or (get_or k.model.states i d) a r) (weights k spans v is within inside i d lt a r at)))

  pub chosen-least : (choice : ℕ → ℕ) (s : ℕ) → AreNonNegative (chosen (process_at k.model v) choice s)
  chosen-least choice s = row_of_list AreNonNegative ((process_at k.model v).choices s) (choice s) tt (weights-least s)

-- what the scheduler chooses is the row of that number
pub chosen_is : (m : ModelData) (v : Valuation) (choice : ℕ → ℕ) (s a : ℕ) → choice s ≡ a → chosen (process_at m v) choice s ≡ moves_at v (row_at m s a)
chosen_is m v choice s a e = ap (λ i. get_or (map (moves_at v) (choices m s)) i []) e ∙ moves_of v (choices m s) a

-- past the last state there is no choice
pub chosen_past : (m : ModelData) (v : Valuation) (choice : ℕ → ℕ) (s : ℕ) → length m.states ≤ s → chosen (process_at m v) choice s ≡ []
chosen_past m v choice s past = ap (λ rows. get_or (map (moves_at v) rows) (choice s) []) (get_or_past m.states s [] past)
