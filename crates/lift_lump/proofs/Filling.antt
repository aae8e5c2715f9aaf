-- A corner, and the valuation inside the rectangle that it becomes when the other parameters are at their low ends.
use Rattle.std.proofs.Common.{◌≡◌, ◌⊎◌, inl, inr, ⊎_elim, ℕ, zero, suc, ◌/◌, ◌%◌, cond, nat_eq, List, [], ◌∷◌, ℤ, pos, ◌+ℤ◌, ◌*ℤ◌, ◌≤ℤ◌, ◌<ℤ◌, All, sym, ap, ap₂, ◌∙◌, subst, arith}
use Rattle.std.proofs.lemmas.List.Elements.{All-head, All-tail}
use Rattle.std.proofs.lemmas.Bool.{cases_eq}
use Rattle.lift_poly.specs.Polynomial.{Term, Valuation, factor, monomial, weight}
use Rattle.lift_poly.proofs.Ring.{linear, mul-assoc, mul-comm, mul-zero, one-mul, mul-add, mul-lt}
use Rattle.lift_grid.specs.Rectangle.{Spans, AreSpans, Inside, end_of}
use Rattle.corner_lift.specs.Corner.{corner}
use Rattle.lift_lump.proofs.Sets.{PartOf, halved, even_part}

pub parity : (n : ℕ) → (n % 2 ≡ 0) ⊎ (n % 2 ≡ 1)
parity n = ⊎_elim (λ (e : n % 2 ≡ 0). inl e) (λ (e : n % 2 ≡ 0 → ⊥). inr (omega arith)) (cases_eq (n % 2) 0)

-- the corner, but with the low end for each other parameter
abbrev pub filled : ℤ → Spans → ℕ → ℕ → Valuation
filled d [] set c = []
filled d (s ∷ spans) set c = cond (nat_eq (set % 2) 0) ((s.0, d) ∷ filled d spans (set / 2) c) ((end_of (c % 2) s, d) ∷ filled d spans (set / 2) (c / 2))

-- what that multiplies weights by
abbrev pub gain : ℤ → Spans → ℕ → ℤ
gain d [] set = pos 1
gain d (s ∷ spans) set = cond (nat_eq (set % 2) 0) (d *ℤ gain d spans (set / 2)) (gain d spans (set / 2))

module _ (d : ℤ) (positive : pos 0 <ℤ d) where
  gain-even : (s : ℤ × ℤ) (spans : Spans) (set : ℕ) → set % 2 ≡ 0 → gain d (s ∷ spans) set ≡ d *ℤ gain d spans (set / 2)
  gain-even s spans set e = ap (λ b. cond (nat_eq b 0) (d *ℤ gain d spans (set / 2)) (gain d spans (set / 2))) e

  gain-odd : (s : ℤ × ℤ) (spans : Spans) (set : ℕ) → set % 2 ≡ 1 → gain d (s ∷ spans) set ≡ gain d spans (set / 2)
  gain-odd s spans set e = ap (λ b. cond (nat_eq b 0) (d *ℤ gain d spans (set / 2)) (gain d spans (set / 2))) e

  filled-even : (s : ℤ × ℤ) (spans : Spans) (set c : ℕ) → set % 2 ≡ 0 → filled d (s ∷ spans) set c ≡ (s.0, d) ∷ filled d spans (set / 2) c
  filled-even s spans set c e = ap (λ b. cond (nat_eq b 0) ((s.0, d) ∷ filled d spans (set / 2) c) ((end_of (c % 2) s, d) ∷ filled d spans (set / 2) (c / 2))) e

  filled-odd : (s : ℤ × ℤ) (spans : Spans) (set c : ℕ) → set % 2 ≡ 1 → filled d (s ∷ spans) set c ≡ (end_of (c % 2) s, d) ∷ filled d spans (set / 2) (c / 2)
  filled-odd s spans set c e = ap (λ b. cond (nat_eq b 0) ((s.0, d) ∷ filled d spans (set / 2) c) ((end_of (c % 2) s, d) ∷ filled d spans (set / 2) (c / 2))) e

  pub corner-even : (s : ℤ × ℤ) (spans : Spans) (set c : ℕ) → set % 2 ≡ 0 → corner d (s ∷ spans) set c ≡ (pos 0, pos 1) ∷ corner d spans (set / 2) c
  corner-even s spans set c e = ap (λ b. cond (nat_eq b 0) ((pos 0, pos 1) ∷ corner d spans (set / 2) c) ((end_of (c % 2) s, d) ∷ corner d spans (set / 2) (c / 2))) e

  pub corner-odd : (s : ℤ × ℤ) (spans : Spans) (set c : ℕ) → set % 2 ≡ 1 → corner d (s ∷ spans) set c ≡ (end_of (c % 2) s, d) ∷ corner d spans (set / 2) (c / 2)
  corner-odd s spans set c e = ap (λ b. cond (nat_eq b 0) ((pos 0, pos 1) ∷ corner d spans (set / 2) c) ((end_of (c % 2) s, d) ∷ corner d spans (set / 2) (c / 2))) e

  pub gain-positive : (spans : Spans) (set : ℕ) → pos 0 <ℤ gain d spans set
  gain-positive [] set = omega (arith, linear)
  gain-positive (s ∷ spans) set = by (parity set) (gain-positive spans (set / 2))
    where
      by : (set % 2 ≡ 0) ⊎ (set % 2 ≡ 1) → pos 0 <ℤ gain d spans (set / 2) → pos 0 <ℤ gain d (s ∷ spans) set
      by (inl even) rest = omega (arith, linear, gain-even s spans set even, mul-lt d (pos 0) (gain d spans (set / 2)) positive rest, mul-zero d)
      by (inr odd) rest = omega (arith, linear, gain-odd s spans set odd, rest)

  -- the filled corner lies in the rectangle
  pub filled-inside : (spans : Spans) (set c : ℕ) → AreSpans spans → Inside d spans (filled d spans set c)
  filled-inside [] set c are = tt
  filled-inside (s ∷ spans) set c are = by (parity set) (filled-inside spans (set / 2) c are.1) (filled-inside spans (set / 2) (c / 2) are.1)
    where
      rising : s.0 <ℤ s.1
      rising = are.0.rising

      stretched : (s.0 *ℤ d) ≤ℤ (s.1 *ℤ d)
      stretched = omega (arith, linear, mul-lt d s.0 s.1 positive rising, mul-comm d s.0, mul-comm d s.1)

      end : (bit : ℕ) → ((s.0 *ℤ d) ≤ℤ (end_of bit s *ℤ d)) × ((end_of bit s *ℤ d) ≤ℤ (s.1 *ℤ d))
      end zero = (omega (arith, linear), stretched)
      end (suc bit) = (stretched, omega (arith, linear))

      by : (set % 2 ≡ 0) ⊎ (set % 2 ≡ 1) → Inside d spans (filled d spans (set / 2) c) → Inside d spans (filled d spans (set / 2) (c / 2)) → Inside d (s ∷ spans) (filled d (s ∷ spans) set c)
      by (inl even) first second = subst (Inside d (s ∷ spans)) (sym (filled-even s spans set c even)) (positive, omega (arith, linear), stretched, first)
      by (inr odd) first second = subst (Inside d (s ∷ spans)) (sym (filled-odd s spans set c odd)) (positive, (end (c % 2)).0, (end (c % 2)).1, second)

  -- a monomial of the corner's set, there and at the corner
  filled-monomial : (spans : Spans) (set c m : ℕ) → PartOf m set → monomial (filled d spans set c) m ≡ gain d spans set *ℤ monomial (corner d spans set c) m
  filled-monomial [] set c m part = sym (one-mul (pos 1))
  filled-monomial (s ∷ spans) set c m part = by (parity set) (filled-monomial spans (set / 2) c (m / 2) (halved m set part)) (filled-monomial spans (set / 2) (c / 2) (m / 2) (halved m set part))
    where
      by : (set % 2 ≡ 0) ⊎ (set % 2 ≡ 1) → monomial (filled d spans (set / 2) c) (m / 2) ≡ gain d spans (set / 2) *ℤ monomial (corner d spans (set / 2) c) (m / 2)
          → monomial (filled d spans (set / 2) (c / 2)) (m / 2) ≡ gain d spans (set / 2) *ℤ monomial (corner d spans (set / 2) (c / 2)) (m / 2)
          → monomial (filled d (s ∷ spans) set c) m ≡ gain d (s ∷ spans) set *ℤ monomial (corner d (s ∷ spans) set c) m
      by (inl even) first second =
          let g = gain d spans (set / 2) in
          let x = monomial (corner d spans (set / 2) c) (m / 2) in
          ap (λ v. monomial v m) (filled-even s spans set c even)
          ∙ ap (λ b. factor b (s.0, d) *ℤ monomial (filled d spans (set / 2) c) (m / 2)) (even_part m set part even)
          ∙ ap (λ z. d *ℤ z) first
          ∙ sym (mul-assoc d g x)
          ∙ ap (λ z. (d *ℤ g) *ℤ z) (sym (one-mul x))
          ∙ sym (ap₂ (λ z b. z *ℤ (factor b (pos 0, pos 1) *ℤ x)) (gain-even s spans set even) (even_part m set part even))
          ∙ sym (ap (λ v. gain d (s ∷ spans) set *ℤ monomial v m) (corner-even s spans set c even))
      by (inr odd) first second =
          let g = gain d spans (set / 2) in
          let x = monomial (corner d spans (set / 2) (c / 2)) (m / 2) in
          let f = factor (m % 2) (end_of (c % 2) s, d) in
          ap (λ v. monomial v m) (filled-odd s spans set c odd)
          ∙ ap (λ z. f *ℤ z) second
          ∙ sym (mul-assoc f g x) ∙ ap (λ z. z *ℤ x) (mul-comm f g) ∙ mul-assoc g f x
          ∙ sym (ap (λ z. z *ℤ (f *ℤ x)) (gain-odd s spans set odd))
          ∙ sym (ap (λ v. gain d (s ∷ spans) set *ℤ monomial v m) (corner-odd s spans set c odd))

  pub filled-weight : (spans : Spans) (set c : ℕ) (terms : List Term) → All (λ (t : Term). PartOf t.0 set) terms → weight (filled d spans set c) terms ≡ gain d spans set *ℤ weight (corner d spans set c) terms
  filled-weight spans set c [] all = sym (mul-zero (gain d spans set))
  filled-weight spans set c (t ∷ ts) all =
      let g = gain d spans set in
      let x = monomial (corner d spans set c) t.0 in
      ap₂ (λ y z. y +ℤ z)
      (ap (λ z. t.1 *ℤ z) (filled-monomial spans set c t.0 (All-head (λ (u : Term). PartOf u.0 set) t ts all)) ∙ sym (mul-assoc t.1 g x) ∙ ap (λ z. z *ℤ x) (mul-comm t.1 g) ∙ mul-assoc g t.1 x)
      (filled-weight spans set c ts (All-tail (λ (u : Term). PartOf u.0 set) t ts all))
      ∙ sym (mul-add g (t.1 *ℤ x) (weight (corner d spans set c) ts))
