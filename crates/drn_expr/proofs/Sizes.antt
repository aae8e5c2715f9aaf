-- Sizes of coefficients: those of a sum, a multiple and a product of small polynomials.
use Rattle.std.proofs.Common.{◌≡◌, ℕ, ◌*◌, ◌^◌, ◌<◌, ◌≤◌, false, List, ◌++◌, ℤ, ◌*ℤ◌, Ok, ⊎_elim, bit_and, get_or, unsigned_abs, sym, ap, subst, arith, refl}
use Rattle.std.specs.List.{list_any}
use Rattle.std.proofs.Math.Nat.{mul-le-mul}
use Rattle.std.proofs.lemmas.Bool.Decides.{nat_tests}
use Rattle.std.proofs.lemmas.Int.{unsigned_abs-mul, ints}
use Rattle.std.proofs.lemmas.List.Folds.{list_any_none}
use Rattle.lift_frac.specs.Limits.{size_limit, product_limit}
use Rattle.lift_poly.specs.Polynomial.{Term, IsPolynomial}
use Rattle.lift_poly.specs.Arithmetic.{coefficient, sum, times, scaled, products, product, support}
use Rattle.lift_poly.specs.Laws.{TermsSumToPolynomial, TermsHaveCoefficients, CoefficientsAreTerms, SumsAddCoefficients, MultiplesScaleCoefficients, ProductsMultiplyCoefficients}
use Rattle.lift_poly.specs.MultiAffine.{is_wide, narrow}
use Rattle.drn_expr.specs.Laws.{CoefficientsAreSmall, MultiplesFit, SumsFit, PlainSumsFit, ProductsFit}
use Rattle.drn_expr.specs.RatPolys.{OverOne, IsRatPoly}

-- each coefficient is below a bound
abbrev IsBelow : ℕ → List Term → Type 0
IsBelow bound ts = (set : ℕ) → unsigned_abs (coefficient set ts) < bound

pub coefficients_small : CoefficientsAreTerms → CoefficientsAreSmall
coefficients_small found p set h =
    ⊎_elim
    (λ none. subst (λ z. unsigned_abs z < size_limit) (sym none) (omega arith))
    (λ at. subst (λ (t : Term). unsigned_abs t.1 < size_limit) at.2 (h.sizes at.0 (set, coefficient set p.terms) at.1))
    (found p.terms set h.polynomial)

narrow_term : (t : Term) → unsigned_abs t.1 < 2 ^ 125 → is_wide t ≡ false
narrow_term t h = grind (arith, nat_tests)

-- a polynomial with no coefficient that is too large
narrow_is : TermsHaveCoefficients → (ts : List Term) → IsPolynomial ts → IsBelow (2 ^ 125) ts → narrow ts ≡ Ok ts
narrow_is law ts h below =
    let fits : list_any is_wide ts ≡ false =
    list_any_none is_wide ts (λ i d lt. narrow_term (get_or ts i d) (subst (λ z. unsigned_abs z < 2 ^ 125) (law ts h i d lt) (below (get_or ts i d).0))) in
    rw fits refl

pub product_below : (x y : ℕ) → x < size_limit → y < size_limit → x * y < product_limit
product_below x y h k =
    let a : x ≤ 4611686018427387903 = omega arith in
    let b : y ≤ 4611686018427387903 = omega arith in
    omega (arith, mul-le-mul a b)

sizes_below : (a b : ℤ) → unsigned_abs a < size_limit → unsigned_abs b < size_limit → unsigned_abs (a *ℤ b) < product_limit
sizes_below a b h k = subst (λ n. n < product_limit) (sym (unsigned_abs-mul a b)) (product_below (unsigned_abs a) (unsigned_abs b) h k)

module _ (polynomial : TermsSumToPolynomial) (terms : TermsHaveCoefficients) (found : CoefficientsAreTerms) where
  multiple_below : MultiplesScaleCoefficients → (by : ℤ) (p : OverOne) → IsRatPoly p → unsigned_abs by < size_limit → IsBelow product_limit (scaled by p.terms)
  multiple_below multiples by p h size set =
      subst (λ z. unsigned_abs z < product_limit) (sym (multiples by p.terms set)) (sizes_below by (coefficient set p.terms) size (coefficients_small found p set h))

  pub multiples_fit : MultiplesScaleCoefficients → MultiplesFit
  multiples_fit multiples by p h size =
      narrow_is terms (scaled by p.terms) (polynomial (times by p.terms)) (λ set. omega (arith, multiple_below multiples by p h size set))

  pub sums_fit : MultiplesScaleCoefficients → SumsAddCoefficients → SumsFit
  sums_fit multiples sums a b p q h k small_a small_b =
      let left = scaled a p.terms in
      let right = scaled b q.terms in
      narrow_is terms (sum left right) (polynomial (left ++ right))
      (λ set. omega (arith, ints, sums left right set, multiple_below multiples a p h small_a set, multiple_below multiples b q k small_b set))

  pub plain_sums_fit : SumsAddCoefficients → PlainSumsFit
  plain_sums_fit sums p q h k =
      narrow_is terms (sum p.terms q.terms) (polynomial (p.terms ++ q.terms))
      (λ set. omega (arith, ints, sums p.terms q.terms set, coefficients_small found p set h, coefficients_small found q set k))

  pub products_fit : ProductsMultiplyCoefficients → ProductsFit
  products_fit law p q h k apart =
      narrow_is terms (product p.terms q.terms) (polynomial (products p.terms q.terms))
      (λ set. ⊎_elim
      (λ none. subst (λ z. unsigned_abs z < 2 ^ 125) (sym none) (omega arith))
      (λ both. let left = coefficients_small found p (bit_and set (support p.terms)) h in
      let right = coefficients_small found q (bit_and set (support q.terms)) k in
      omega (arith, ap unsigned_abs both, sizes_below (coefficient (bit_and set (support p.terms)) p.terms) (coefficient (bit_and set (support q.terms)) q.terms) left right))
      (law p.terms q.terms set apart))
