-- Weighted sums of moves, and what is known of a row of a case.
use Rattle.std.proofs.Common.{◌≡◌, ℕ, zero, suc, ◌<◌, ◌≤◌, ◌⊎◌, ⊎_elim, ◌+◌, Bool, true, false, List, [], ◌∷◌, length, get_or, ℤ, pos, ◌*ℤ◌, ◌≤ℤ◌, ◌<ℤ◌, refl, ap, arith, nat_lt, ltb-true, ltb-false}
use Rattle.std.proofs.lemmas.Int.{by_lt_z}
use Rattle.lift_poly.proofs.Ring.{linear, mul-comm, mul-zero, mul-le, mul-lt}
use Rattle.lift_grid.specs.Rectangle.{Spans}
use Rattle.lift_model.specs.declared.entry.Entry.{Entry}
use Rattle.lift_model.specs.Process.{Move, power, weighted_sum}
use Rattle.lift_model.specs.Model.{support, choices}
use Rattle.corner_lift.specs.Corner.{parameter_count, whole}
use Rattle.corner_lift.specs.Case.{CaseData, IsCase}
use Rattle.corner_lift.specs.Laws.{HasRow}

-- whether a number is below another
pub in_or_past : (s count : ℕ) → (s < count) ⊎ (count ≤ s)
in_or_past s count = grind arith

pub either_way : {P : Type 0} (b : Bool) → (b ≡ true → P) → (b ≡ false → P) → P
either_way true f g = f refl
either_way false f g = g refl

-- one place more
pub one_more : (P : ℕ → Type 0) (i : ℕ) → ((j : ℕ) → j < i → P j) → P i → (j : ℕ) → j < i + 1 → P j
one_more P i before here j lt = ⊎_elim (λ (l : j < i). before j l) (λ (past : i ≤ j). let same : j ≡ i = omega (arith, past, lt) in rw same here) (in_or_past j i)

pub sum-same : (f g : ℕ → ℤ) (moves : List Move) → ((t : ℕ) → f t ≡ g t) → weighted_sum f moves ≡ weighted_sum g moves
sum-same f g [] same = refl
sum-same f g (m ∷ moves) same = omega (arith, linear, sum-same f g moves same, ap (λ z. m.1 *ℤ z) (same m.0))

pub sum-zero : (moves : List Move) → weighted_sum (λ t. pos 0) moves ≡ pos 0
sum-zero [] = refl
sum-zero (m ∷ moves) = omega (arith, linear, sum-zero moves, mul-zero m.1)

-- a part of a whole above 0 is above 0
pub positive_part : (a b q : ℤ) → pos 0 ≤ℤ q → pos 0 <ℤ b → b ≤ℤ (a *ℤ q) → pos 0 <ℤ a
positive_part a b q h positive le = by_lt_z (pos 0) a (λ l. l) (λ n. let f = mul-le q a (pos 0) h n in absurd (omega (arith, linear, f, positive, le, mul-comm q a, mul-zero q)))

product-positive : (a b : ℤ) → pos 0 <ℤ a → pos 0 <ℤ b → pos 0 <ℤ (a *ℤ b)
product-positive a b f g = let lt = mul-lt a (pos 0) b f g in omega (arith, linear, lt, mul-zero a)

power-positive : (b : ℤ) (n : ℕ) → pos 0 <ℤ b → pos 0 <ℤ power b n
power-positive b zero h = omega (arith, linear)
power-positive b (suc n) h = product-positive b (power b n) h (power-positive b n h)

pub whole-positive : (k : CaseData) (spans : Spans) (row : List Entry) → IsCase k → pos 0 <ℤ whole k.model k.d spans row
whole-positive k spans row is =
    let count = parameter_count spans (support row) in
    product-positive k.model.common (power k.d count) (omega (arith, linear, is.asked.model.denominator.0)) (power-positive k.d count (omega (arith, linear, is.asked.grid.positive)))

-- a state with a choice is one of the states
pub row_there : (k : CaseData) (s a : ℕ) → a < length (choices k.model s) → HasRow k s a
row_there k s a lt = record {
  state = either_way (nat_lt s (length k.model.states)) (λ e. ltb-true s (length k.model.states) e) (λ e. absurd (past_end k.model.states s (ltb-false s (length k.model.states) e) lt));
  choice = lt;
}
  where
    past_end : (states : List (List (List Entry))) (s : ℕ) → length states ≤ s → a < length (get_or states s []) → ⊥
    past_end [] s le lt = omega (arith, lt)
    past_end (state ∷ states) zero le lt = omega (arith, le)
    past_end (state ∷ states) (suc s) le lt = past_end states s (omega (arith, le)) lt
