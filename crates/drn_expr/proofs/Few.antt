-- The sum of two polynomials over 1: only the coefficients at the other one's sets can become too large.
use Rattle.std.proofs.Common.{◌≡◌, ℕ, ◌*◌, ◌<◌, Bool, true, false, cond, ◌||◌, List, [], ◌∷◌, ◌++◌, length, get_or, pos, Ok, Err, ⊎_elim, unsigned_abs, sym, ap, ap₂, subst, ◌∙◌, arith, mul_comm}
use Rattle.std.specs.List.{list_any}
use Rattle.std.proofs.lemmas.Bool.{cases_Bool}
use Rattle.std.proofs.lemmas.List.Folds.{list_any_at, list_any_none}
use Rattle.std.proofs.lemmas.Nat.Gcd.{dvd_of_mod-eq-zero}
use Rattle.lift_frac.specs.Limits.{size_limit}
use Rattle.lift_frac.specs.Laws.{GcdIsGreatest}
use Rattle.lift_poly.specs.Polynomial.{Term, IsPolynomial}
use Rattle.lift_poly.specs.Arithmetic as poly
use Rattle.lift_poly.specs.Arithmetic.{coefficient, scaled, times, quotient, DividesEach}
use Rattle.lift_poly.specs.Laws.{TermsSumToPolynomial, TermsHaveCoefficients, CoefficientsAreTerms, CoefficientsDetermine, SumsAddCoefficients, MultiplesScaleCoefficients, MultiplesKeepTerms, QuotientsAreExact, QuotientsArePolynomials}
use Rattle.lift_poly.proofs.Ring.{linear, one-mul}
use Rattle.drn_expr.specs.Expansion.{sum}
use Rattle.drn_expr.specs.Laws.{CoefficientsAreSmall, SumsCommute, SumsOverOne, SumsOverOneAreValues, is_large_at}
use Rattle.drn_expr.specs.RatPolys.{OverOne, IsRatPoly, is_large, narrow}
use Rattle.drn_expr.specs.declared.error.ExprError.TheVariants.{Wide}
use Rattle.drn_expr.proofs.Calls.{over, wide_terms, narrow_given, rat_poly, small_size}
use Rattle.drn_expr.proofs.Divisors.{common-one}
use Rattle.drn_expr.proofs.Sizes.{coefficients_small}

-- ---- the divisor 1

scaled-one : CoefficientsDetermine → TermsSumToPolynomial → MultiplesScaleCoefficients → (ts : List Term) → IsPolynomial ts → scaled (pos 1) ts ≡ ts
scaled-one unique polynomial multiples ts h =
    unique (scaled (pos 1) ts) ts (polynomial (times (pos 1) ts)) h (λ set. multiples (pos 1) ts set ∙ one-mul (coefficient set ts))

each_by_one : (ts : List Term) → DividesEach 1 ts
each_by_one ts k d lt = dvd_of_mod-eq-zero 1 (omega arith)

quotient-one : ((ts : List Term) → IsPolynomial ts → scaled (pos 1) ts ≡ ts) → MultiplesKeepTerms → QuotientsAreExact → QuotientsArePolynomials → (ts : List Term) → IsPolynomial ts → quotient ts (pos 1) ≡ ts
quotient-one one kept exact quotients ts h =
    let q = quotients (pos 1) ts (each_by_one ts) h in
    sym (kept (pos 1) (quotient ts (pos 1)) (λ e. cc e) q ∙ one (quotient ts (pos 1)) q) ∙ exact (pos 1) ts (each_by_one ts)

-- ---- the operands' order

pub sums_commute : CoefficientsDetermine → TermsSumToPolynomial → SumsAddCoefficients → SumsCommute
sums_commute unique polynomial sums a b =
    let left = scaled (pos b.den) a.terms in
    let right = scaled (pos a.den) b.terms in
    ap₂ narrow
    (unique (poly.sum left right) (poly.sum right left) (polynomial (left ++ right)) (polynomial (right ++ left)) (λ set. omega (arith, linear, sums left right set, sums right left set)))
    (mul_comm a.den b.den)

-- ---- coefficients that are too large

large_there : (found : CoefficientsAreTerms) (s : List Term) (set : ℕ) → IsPolynomial s → is_large (set, coefficient set s) ≡ true → list_any is_large s ≡ true
large_there found s set h large =
    ⊎_elim
    (λ (none : coefficient set s ≡ pos 0). let test : is_large (set, pos 0) ≡ true = ap (λ z. is_large (set, z)) (sym none) ∙ large in absurd (cc test))
    (λ at. list_any_at is_large s at.0 (set, coefficient set s) at.1 (ap is_large at.2 ∙ large))
    (found s set h)

few_large : CoefficientsAreTerms → (s ts : List Term) → IsPolynomial s → is_large_at s ts ≡ true → list_any is_large s ≡ true
few_large found s [] h e = absurd (cc e)
few_large found s (t ∷ ts) h e =
    ⊎_elim
    (λ (first : is_large (t.0, coefficient t.0 s) ≡ true). large_there found s t.0 h first)
    (λ (first : is_large (t.0, coefficient t.0 s) ≡ false). few_large found s ts h (sym (ap (λ b. b || list_any (λ u. is_large (u.0, coefficient u.0 s)) ts) first) ∙ e))
    (cases_Bool (is_large (t.0, coefficient t.0 s)))

none_at : (p : Term → Bool) (ts : List Term) (i : ℕ) (d : Term) → i < length ts → list_any p ts ≡ false → p (get_or ts i d) ≡ false
none_at p ts i d lt none =
    ⊎_elim
    (λ (yes : p (get_or ts i d) ≡ true). let some = list_any_at p ts i d lt yes in cc)
    (λ (no : p (get_or ts i d) ≡ false). no)
    (cases_Bool (p (get_or ts i d)))

few_small : TermsSumToPolynomial → TermsHaveCoefficients → CoefficientsAreTerms → SumsAddCoefficients → CoefficientsAreSmall → (a b : OverOne) → IsRatPoly a → IsRatPoly b
    → is_large_at (poly.sum a.terms b.terms) b.terms ≡ false → list_any is_large (poly.sum a.terms b.terms) ≡ false
few_small polynomial terms found sums small a b h k none =
    let s = poly.sum a.terms b.terms in
    list_any_none is_large s (λ i d lt.
    let t = get_or s i d in
    let number : coefficient t.0 s ≡ t.1 = terms s (polynomial (a.terms ++ b.terms)) i d lt in
    ⊎_elim
    (λ (no : coefficient t.0 b.terms ≡ pos 0).
    let same : t.1 ≡ coefficient t.0 a.terms = omega (arith, linear, number, sums a.terms b.terms t.0, no) in
    small_size t (subst (λ z. unsigned_abs z < size_limit) (sym same) (small a t.0 h)))
    (λ at. ap (λ z. is_large (t.0, z)) (sym number) ∙ ap (λ (u : Term). is_large (u.0, coefficient u.0 s)) (sym at.2)
    ∙ none_at (λ u. is_large (u.0, coefficient u.0 s)) b.terms at.0 (t.0, coefficient t.0 b.terms) at.1 none)
    (found b.terms t.0 k.polynomial))

-- ---- the sum

pub sums_over_one : GcdIsGreatest → CoefficientsDetermine → TermsSumToPolynomial → TermsHaveCoefficients → CoefficientsAreTerms → SumsAddCoefficients → MultiplesScaleCoefficients → MultiplesKeepTerms → QuotientsAreExact → QuotientsArePolynomials → SumsOverOne
sums_over_one greatest unique polynomial terms found sums multiples kept exact quotients a b h k ea eb =
    let s = poly.sum a.terms b.terms in
    let one = scaled-one unique polynomial multiples in
    let held : IsPolynomial s = polynomial (a.terms ++ b.terms) in
    let whole = sym (quotient-one one kept exact quotients s held) in
    let common = sym (common-one greatest s) in
    let formed : sum a b ≡ narrow s 1 =
    ap₂ (λ m n. narrow (poly.sum (scaled (pos n) a.terms) (scaled (pos m) b.terms)) (m * n)) ea eb
    ∙ ap₂ (λ p q. narrow (poly.sum p q) 1) (one a.terms h.polynomial) (one b.terms k.polynomial) in
    ⊎_elim
    (λ (large : is_large_at s b.terms ≡ true). formed ∙ sym (wide_terms 1 1 s s common whole (few_large found s b.terms held large)) ∙ ap (λ t. cond t (Err Wide) (Ok (over s 1))) (sym large))
    (λ (large : is_large_at s b.terms ≡ false).
    formed ∙ sym (narrow_given 1 1 s s common whole (omega arith) (few_small polynomial terms found sums (coefficients_small found) a b h k large)) ∙ ap (λ t. cond t (Err Wide) (Ok (over s 1))) (sym large))
    (cases_Bool (is_large_at s b.terms))

pub sums_over_one_are_values : GcdIsGreatest → CoefficientsDetermine → TermsSumToPolynomial → TermsHaveCoefficients → CoefficientsAreTerms → SumsAddCoefficients → MultiplesScaleCoefficients → MultiplesKeepTerms → SumsOverOneAreValues
sums_over_one_are_values greatest unique polynomial terms found sums multiples kept a b h k small =
    let s = poly.sum a.terms b.terms in
    let held : IsPolynomial s = polynomial (a.terms ++ b.terms) in
    let back = kept (pos 1) s (λ e. cc e) held ∙ scaled-one unique polynomial multiples s held in
    rat_poly greatest 1 1 s s (omega arith) (omega arith) (sym (common-one greatest s)) back held (omega arith) (few_small polynomial terms found sums (coefficients_small found) a b h k small)
