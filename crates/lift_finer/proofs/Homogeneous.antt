-- Weights at corners over a grid n times as fine: each parameter of the row brings a factor n.
use Rattle.std.proofs.Common.{◌≡◌, ◌==◌, cond, ℕ, zero, suc, ◌+◌, ◌/◌, ◌%◌, List, [], ◌∷◌, ℤ, pos, ◌*ℤ◌, refl, sym, ap, ap₂, ◌∙◌, arith, ◌⊎◌, inl, inr, ⊎_elim, zero-add, one-add}
use Rattle.std.proofs.lemmas.Bool.{cases_eq}
use Rattle.std.specs.Prelude.{slice_index_or}
use Rattle.lift_poly.specs.Polynomial.{Term, Valuation, factor, monomial, weight}
use Rattle.lift_poly.proofs.Ring.{linear, mul-comm, mul-assoc, add-mul, zero-mul}
use Rattle.lift_grid.specs.Rectangle.{Spans, end_of}
use Rattle.lift_model.specs.declared.entry.Entry.{Entry}
use Rattle.lift_model.specs.Process.{power, weighted_sum}
use Rattle.lift_model.specs.Model.{support, moves_at}
use Rattle.corner_lift.specs.Corner.{corner, parameter_count, no_entry}
use Rattle.lift_finer.specs.Finer.{finer_spans}
use Rattle.lift_finer.specs.Laws.{ParametersStay, WeightsAreHomogeneous, SumsAreHomogeneous, WholesAreHomogeneous}

-- ---- factors

-- (a b) (c d) = (a c) (b d)
shuffle : (a b c d : ℤ) → (a *ℤ b) *ℤ (c *ℤ d) ≡ (a *ℤ c) *ℤ (b *ℤ d)
shuffle a b c d =
    mul-assoc a b (c *ℤ d)
    ∙ ap (λ z. a *ℤ z) (sym (mul-assoc b c d) ∙ ap (λ z. z *ℤ d) (mul-comm b c) ∙ mul-assoc c b d)
    ∙ sym (mul-assoc a c (b *ℤ d))

factor_times : (bit : ℕ) (x y q : ℤ) → factor bit (x *ℤ q, y *ℤ q) ≡ factor bit (x, y) *ℤ q
factor_times zero x y q = refl
factor_times (suc bit) x y q = refl

end_times : (bit : ℕ) (s : ℤ × ℤ) (q : ℤ) → end_of bit (s.0 *ℤ q, s.1 *ℤ q) ≡ end_of bit s *ℤ q
end_times zero s q = refl
end_times (suc bit) s q = refl

power_product : (a b : ℤ) (m : ℕ) → power (a *ℤ b) m ≡ power a m *ℤ power b m
power_product a b zero = refl
power_product a b (suc m) = ap (λ z. (a *ℤ b) *ℤ z) (power_product a b m) ∙ shuffle a b (power a m) (power b m)

-- ---- monomials at corners

parity : (n : ℕ) → (n % 2 ≡ 0) ⊎ (n % 2 ≡ 1)
parity n = ⊎_elim (λ (e : n % 2 ≡ 0). inl e) (λ (e : n % 2 ≡ 0 → ⊥). inr (omega arith)) (cases_eq (n % 2) 0)

pub parameters_stay : ParametersStay
parameters_stay n [] set = refl
parameters_stay n (s ∷ spans) set = ap (λ m. set % 2 + m) (parameters_stay n spans (set / 2))

-- the corner of a first parameter in the set, or outside it
corner_out : (d : ℤ) (s : ℤ × ℤ) (spans : Spans) (set c : ℕ) → set % 2 ≡ 0 → corner d (s ∷ spans) set c ≡ (pos 0, pos 1) ∷ corner d spans (set / 2) c
corner_out d s spans set c e = ap (λ b. cond (b == 0) ((pos 0, pos 1) ∷ corner d spans (set / 2) c) ((end_of (c % 2) s, d) ∷ corner d spans (set / 2) (c / 2))) e

corner_in : (d : ℤ) (s : ℤ × ℤ) (spans : Spans) (set c : ℕ) → set % 2 ≡ 1 → corner d (s ∷ spans) set c ≡ (end_of (c % 2) s, d) ∷ corner d spans (set / 2) (c / 2)
corner_in d s spans set c e = ap (λ b. cond (b == 0) ((pos 0, pos 1) ∷ corner d spans (set / 2) c) ((end_of (c % 2) s, d) ∷ corner d spans (set / 2) (c / 2))) e

module _ (d : ℤ) (n : ℕ) where
  monomial_times : (spans : Spans) (set c term : ℕ) → monomial (corner (d *ℤ pos n) (finer_spans n spans) set c) term ≡ monomial (corner d spans set c) term *ℤ power (pos n) (parameter_count spans set)
  monomial_times [] set c term = refl
  monomial_times (s ∷ spans) set c term =
      let fine : ℤ × ℤ = (s.0 *ℤ pos n, s.1 *ℤ pos n) in
      let bit = term % 2 in
      let rest = term / 2 in
      ⊎_elim
      (λ (e : set % 2 ≡ 0).
      ap (λ v. monomial v term) (corner_out (d *ℤ pos n) fine (finer_spans n spans) set c e)
      ∙ ap (λ z. factor bit (pos 0, pos 1) *ℤ z) (monomial_times spans (set / 2) c rest)
      ∙ sym (mul-assoc (factor bit (pos 0, pos 1)) (monomial (corner d spans (set / 2) c) rest) (power (pos n) (parameter_count spans (set / 2))))
      ∙ ap₂ (λ (v : Valuation) (m : ℕ). monomial v term *ℤ power (pos n) m) (sym (corner_out d s spans set c e)) (sym (ap (λ b. b + parameter_count spans (set / 2)) e ∙ zero-add (parameter_count spans (set / 2)))))
      (λ (e : set % 2 ≡ 1).
      let low = end_of (c % 2) s in
      let below = monomial (corner d spans (set / 2) (c / 2)) rest in
      let q = power (pos n) (parameter_count spans (set / 2)) in
      ap (λ v. monomial v term) (corner_in (d *ℤ pos n) fine (finer_spans n spans) set c e)
      ∙ ap₂ ◌*ℤ◌ (ap (λ z. factor bit (z, d *ℤ pos n)) (end_times (c % 2) s (pos n)) ∙ factor_times bit low d (pos n)) (monomial_times spans (set / 2) (c / 2) rest)
      ∙ shuffle (factor bit (low, d)) (pos n) below q
      ∙ ap₂ (λ (v : Valuation) (m : ℕ). monomial v term *ℤ power (pos n) m) (sym (corner_in d s spans set c e)) (sym (ap (λ b. b + parameter_count spans (set / 2)) e ∙ one-add (parameter_count spans (set / 2)))))
      (parity set)

-- ---- rows

-- where each monomial is q times as large, so are weights and weighted sums
module _ (v u : Valuation) (q : ℤ) (more : (set : ℕ) → monomial u set ≡ monomial v set *ℤ q) where
  weight_times : (terms : List Term) → weight u terms ≡ weight v terms *ℤ q
  weight_times [] = sym (zero-mul q)
  weight_times (t ∷ terms) =
      omega (arith, linear, weight_times terms, add-mul (t.1 *ℤ monomial v t.0) (weight v terms) q, mul-assoc t.1 (monomial v t.0) q, ap (λ z. t.1 *ℤ z) (more t.0))

  sum_times : (number : ℕ → ℤ) (row : List Entry) → weighted_sum number (moves_at u row) ≡ weighted_sum number (moves_at v row) *ℤ q
  sum_times number [] = sym (zero-mul q)
  sum_times number (entry ∷ row) =
      let w = weight v entry.poly in
      let y = number entry.target in
      let first : weight u entry.poly *ℤ y ≡ (w *ℤ y) *ℤ q = ap (λ z. z *ℤ y) (weight_times entry.poly) ∙ mul-assoc w q y ∙ ap (λ z. w *ℤ z) (mul-comm q y) ∙ sym (mul-assoc w y q) in
      omega (arith, linear, first, sum_times number row, add-mul (w *ℤ y) (weighted_sum number (moves_at v row)) q)

-- any polynomial at a corner of the row
pub weight_at : (d : ℤ) (n : ℕ) (spans : Spans) (row : List Entry) (c : ℕ) (terms : List Term)
    → weight (corner (d *ℤ pos n) (finer_spans n spans) (support row) c) terms ≡ weight (corner d spans (support row) c) terms *ℤ power (pos n) (parameter_count spans (support row))
weight_at d n spans row c terms =
    let set = support row in
    weight_times (corner d spans set c) (corner (d *ℤ pos n) (finer_spans n spans) set c) (power (pos n) (parameter_count spans set)) (monomial_times d n spans set c) terms

pub weights_are_homogeneous : WeightsAreHomogeneous
weights_are_homogeneous d n spans row c entry = weight_at d n spans row c (slice_index_or row entry no_entry).poly

pub sums_are_homogeneous : SumsAreHomogeneous
sums_are_homogeneous d n spans row c number =
    let set = support row in
    sum_times (corner d spans set c) (corner (d *ℤ pos n) (finer_spans n spans) set c) (power (pos n) (parameter_count spans set)) (monomial_times d n spans set c) number row

pub wholes_are_homogeneous : WholesAreHomogeneous
wholes_are_homogeneous m d n spans row =
    let set = support row in
    let count = parameter_count spans set in
    ap (λ g. m.common *ℤ power (d *ℤ pos n) g) (parameters_stay n spans set)
    ∙ ap (λ z. m.common *ℤ z) (power_product d (pos n) count)
    ∙ sym (mul-assoc m.common (power d count) (power (pos n) count))
