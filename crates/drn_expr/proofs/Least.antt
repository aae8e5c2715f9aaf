-- The same fraction over its least denominator.
use Rattle.std.proofs.Common.{◌≡◌, ℕ, zero, suc, ◌*◌, ◌<◌, ◌/◌, Bool, true, false, cond, List, [], ◌∷◌, ℤ, pos, ◌+ℤ◌, ◌*ℤ◌, sym, ap, ◌∙◌, refl, bit_or, arith, Ok, Err}
use Rattle.std.specs.Int.{◌∣◌}
use Rattle.std.proofs.Math.Nat.{div-mul_cancel}
use Rattle.std.proofs.lemmas.Bool.Decides.{nat_tests}
use Rattle.std.proofs.lemmas.Nat.{le_or_l, le_or_r}
use Rattle.std.proofs.lemmas.Nat.Gcd.{mod-eq-zero_of_dvd}
use Rattle.lift_poly.specs.Polynomial.{Term, Valuation, monomial, weight, denominator}
use Rattle.lift_poly.specs.Arithmetic.{coefficient, times, quotient, support}
use Rattle.lift_poly.proofs.Ring.{linear, mul-comm, mul-assoc, add-mul, zero-mul}
use Rattle.drn_expr.specs.RatPolys.{OverOne, common_divisor, lowest, is_wide, narrow}
use Rattle.drn_expr.specs.declared.error.ExprError.TheVariants.{Wide}
use Rattle.drn_expr.proofs.Divisors.{common_divides}
use Rattle.drn_expr.proofs.Premises.{Premises}

pub positive_divisor : (g d : ℕ) → g ∣ d → 0 < d → 0 < g
positive_divisor zero d h above = let e = mod-eq-zero_of_dvd zero h in absurd (omega (arith, e))
positive_divisor (suc g) d h above = omega arith

pub quotient_positive : (q g d : ℕ) → q * g ≡ d → 0 < d → 0 < q
quotient_positive zero g d e h = absurd (omega arith)
quotient_positive (suc q) g d e h = omega arith

-- the polynomial p over its denominator is ts over d
pub record Same (v : Valuation) (ts : List Term) (d : ℕ) (p : OverOne) : Type 0 where
  pub weight_is : weight v p.terms *ℤ pos d ≡ weight v ts *ℤ pos p.den
  pub positive : 0 < p.den

-- each term times a number
weight-times : Premises → (v : Valuation) (by : ℤ) (ts : List Term) → weight v (times by ts) ≡ by *ℤ weight v ts
weight-times laws v by ts = sym (laws.weighed v (times by ts)) ∙ laws.multiples v by ts

same_lowest : Premises → (v : Valuation) (ts : List Term) (d : ℕ) → 0 < d → Same v ts d (lowest ts d)
same_lowest laws v ts d above =
    let g : ℕ = common_divisor d ts in
    let q = quotient ts (pos g) in
    let both = common_divides laws.greatest d ts in
    let den : (d / g) * g ≡ d = div-mul_cancel g both.0 in
    let back = laws.exact (pos g) ts both.1 in
    record {
      weight_is = ap (λ k. weight v q *ℤ k) (sym (ap pos den)) ∙ ap (λ k. weight v q *ℤ k) (mul-comm (pos (d / g)) (pos g))
          ∙ sym (mul-assoc (weight v q) (pos g) (pos (d / g))) ∙ ap (λ k. k *ℤ pos (d / g)) (mul-comm (weight v q) (pos g) ∙ sym (weight-times laws v (pos g) q) ∙ ap (weight v) back);
      positive = quotient_positive (d / g) g d den above;
    }

narrow_is : (p q : OverOne) (b : Bool) → cond b (Err Wide) (Ok p) ≡ Ok q → p ≡ q
narrow_is p q true e = cc
narrow_is p q false e = cc

pub same_narrow : Premises → (v : Valuation) (ts : List Term) (d : ℕ) (p : OverOne) → 0 < d → narrow ts d ≡ Ok p → Same v ts d p
same_narrow laws v ts d p above e =
    let is = narrow_is (lowest ts d) p (is_wide (lowest ts d)) e in
    let s = same_lowest laws v ts d above in
    record {
      weight_is = ap (λ (q : OverOne). weight v q.terms *ℤ pos d) (sym is) ∙ s.weight_is ∙ ap (λ (q : OverOne). weight v ts *ℤ pos q.den) is;
      positive = omega (arith, s.positive, ap (λ (q : OverOne). q.den) is);
    }

-- a polynomial without parameters
pub empty_set : (v : Valuation) → monomial v 0 ≡ denominator v
empty_set [] = refl
empty_set (x ∷ v) = ap (λ k. x.1 *ℤ k) (empty_set v)

or_zero : (a b : ℕ) → bit_or a b ≡ 0 → (a ≡ 0) × (b ≡ 0)
or_zero a b e = (omega (arith, e, le_or_l a b), omega (arith, e, le_or_r a b))

-- the coefficient at a set, where the first term has it
coefficient-here : (set : ℕ) (t : Term) (ts : List Term) → t.0 ≡ set → coefficient set (t ∷ ts) ≡ t.1 +ℤ coefficient set ts
coefficient-here set t ts e = grind (arith, nat_tests)

pub weight-number : (v : Valuation) (ts : List Term) → support ts ≡ 0 → weight v ts ≡ coefficient 0 ts *ℤ denominator v
weight-number v [] h = sym (zero-mul (denominator v))
weight-number v (t ∷ ts) h =
    let zeros = or_zero t.0 (support ts) h in
    let rest = weight-number v ts zeros.1 in
    let here = ap (λ k. t.1 *ℤ monomial v k) zeros.0 ∙ ap (λ k. t.1 *ℤ k) (empty_set v) in
    let number = ap (λ z. z *ℤ denominator v) (coefficient-here 0 t ts zeros.0) in
    omega (arith, linear, rest, here, number, add-mul t.1 (coefficient 0 ts) (denominator v))
