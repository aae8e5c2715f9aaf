-- What the operations on polynomials over one denominator answer.
use Rattle.std.proofs.Common.{◌≡◌, ◌≢◌, ℕ, zero, suc, ◌+◌, ◌*◌, ◌/◌, ◌<◌, ◌≤◌, ◌==◌, Bool, true, false, cond, ◌||◌, List, [], ◌∷◌, get_or, ℤ, pos, negsuc, ◌*ℤ◌, ◌<ℤ◌, All, Some, take, Result, Ok, Err, unsigned_abs, bit_and, int_eq, refl, sym, ap, subst, ◌∙◌, arith}
use Rattle.std.specs.Prelude.{nat_le, slice_get}
use Rattle.std.specs.List.{list_any}
use Rattle.std.specs.Int.{◌∣◌}
use Rattle.std.proofs.lemmas.Bool.Decides.{nat_tests, Decides-int_eq}
use Rattle.std.proofs.lemmas.List.Folds.{list_any_at, list_any_more}
use Rattle.std.proofs.lemmas.Option.{slice_get_within, get_or_from_slice_get}
use Rattle.std.proofs.lemmas.List.Elements.{All-nil, All-cons, All-head, All-tail}
use Rattle.std.proofs.Math.Nat.{div-mul_cancel}
use Rattle.std.proofs.lemmas.Int.{unsigned_abs-mul}
use Rattle.std.proofs.lemmas.Nat.Gcd.{dvd_refl, dvd-zero}
use Rattle.lift_frac.specs.Limits.{size_limit}
use Rattle.lift_frac.specs.Gcd.{gcd}
use Rattle.lift_frac.specs.Laws.{GcdIsGreatest, GcdIsUnique}
use Rattle.lift_poly.specs.Polynomial.{Term, IsPolynomial, constant}
use Rattle.lift_poly.specs.Arithmetic as poly
use Rattle.lift_poly.specs.Arithmetic.{coefficient, scaled, times, quotient, support, DividesEach, IsContent}
use Rattle.lift_poly.specs.MultiAffine as held
use Rattle.lift_poly.specs.MultiAffine.{IsMultiAffine, product_answer}
use Rattle.lift_poly.specs.declared.error.PolyError.{PolyError}
use Rattle.lift_poly.specs.declared.error.PolyError.TheVariants as fault
use Rattle.lift_poly.specs.Laws.{MultiplesKeepTerms}
use Rattle.lift_poly.proofs.Ring.{linear}
use Rattle.drn_expr.specs.RatPolys.{OverOne, common_divisor, lowest, is_large, is_wide, narrow, cause_of, IsRatPoly, with_sign}
use Rattle.drn_expr.specs.Expansion.{product, by_number}
use Rattle.drn_expr.specs.declared.error.ExprError.{ExprError}
use Rattle.drn_expr.specs.declared.error.ExprError.TheVariants.{Wide, Memory, SharedParameter}
use Rattle.drn_expr.specs.Laws.{MultiplesFit, SumsFit, ProductsFit}
use Rattle.drn_expr.proofs.Divisors.{common_divides, nothing_common, common-negative}

abbrev pub over : List Term → ℕ → OverOne
over terms den = record { terms = terms; den = den }

-- ---- answers of the calls of `MultiAffine`

-- want of memory aside, this is answered
abbrev pub IsAnswer : Result (List Term) PolyError → Result (List Term) PolyError → Type 0
IsAnswer result expected = result ≢ Err fault.Memory → result ≡ expected

answered : (b : Bool) (p ts : List Term) → Ok p ≡ cond b (Err fault.Wide) (Ok ts) → p ≡ ts
answered true p ts e = cc
answered false p ts e = cc

-- a polynomial that was given
pub given : (p ts : List Term) → IsAnswer (Ok p) (held.narrow ts) → p ≡ ts
given p ts h = answered (list_any held.is_wide ts) p ts (h (λ e. cc))

-- a polynomial that can't be too large is refused for want of memory alone
pub memory_alone : (e : PolyError) (ts : List Term) (r target : Result OverOne ExprError) → IsAnswer (Err e) (held.narrow ts) → held.narrow ts ≡ Ok ts → r ≡ Err (cause_of e) → r ≢ Err Memory → r ≡ target
memory_alone fault.SharedParameter ts r target h fits is some = let e = h (λ e. cc) ∙ fits in cc
memory_alone fault.Wide ts r target h fits is some = let e = h (λ e. cc) ∙ fits in cc
memory_alone fault.Memory ts r target h fits is some = absurd (some is)

-- ---- lowest terms

common_divides_den : GcdIsGreatest → (den g : ℕ) (ts : List Term) → g ≡ common_divisor den ts → g ∣ den
common_divides_den greatest den g ts is = let P : ℕ → Type 0 = λ n. n ∣ den in subst P (sym is) (common_divides greatest den ts).0

pub divides_each : GcdIsGreatest → (den g : ℕ) (ts : List Term) → g ≡ common_divisor den ts → DividesEach g ts
divides_each greatest den g ts is = subst (λ n. DividesEach n ts) (sym is) (common_divides greatest den ts).1

lowest_is : (den g : ℕ) (ts q : List Term) → g ≡ common_divisor den ts → q ≡ quotient ts (pos g) → over q (den / g) ≡ lowest ts den
lowest_is den g ts q e f = ap (λ p. over p (den / g)) f ∙ ap (λ k. over (quotient ts (pos k)) (den / k)) e

by_wide : OverOne → Bool → Result OverOne ExprError
by_wide p b = cond b (Err Wide) (Ok p)

narrow_by : (p : OverOne) (ts : List Term) (den : ℕ) (b : Bool) → p ≡ lowest ts den → is_wide p ≡ b → by_wide p b ≡ narrow ts den
unfolding by_wide
narrow_by p ts den b e wide = ap (by_wide p) (sym wide) ∙ ap (λ l. by_wide l (is_wide l)) e

or_true : (b : Bool) → (b || true) ≡ true
or_true true = refl
or_true false = refl

pub wide_den : (den g : ℕ) (ts : List Term) → g ≡ common_divisor den ts → size_limit ≤ den / g → Err Wide ≡ narrow ts den
unfolding by_wide
wide_den den g ts is large =
    let p = over (quotient ts (pos g)) (den / g) in
    let test : nat_le size_limit (den / g) ≡ true = grind (arith, nat_tests) in
    narrow_by p ts den true (lowest_is den g ts (quotient ts (pos g)) is refl) (ap (λ b. b || list_any is_large p.terms) test)

pub wide_terms : (den g : ℕ) (ts q : List Term) → g ≡ common_divisor den ts → q ≡ quotient ts (pos g) → list_any is_large q ≡ true → Err Wide ≡ narrow ts den
unfolding by_wide
wide_terms den g ts q is f large =
    narrow_by (over q (den / g)) ts den true (lowest_is den g ts q is f) (ap (λ b. nat_le size_limit (den / g) || b) large ∙ or_true (nat_le size_limit (den / g)))

pub narrow_given : (den g : ℕ) (ts q : List Term) → g ≡ common_divisor den ts → q ≡ quotient ts (pos g) → den / g < size_limit → list_any is_large q ≡ false → Ok (over q (den / g)) ≡ narrow ts den
unfolding by_wide
narrow_given den g ts q is f small_den small_terms =
    let test : nat_le size_limit (den / g) ≡ false = grind (arith, nat_tests) in
    narrow_by (over q (den / g)) ts den false (lowest_is den g ts q is f) (ap (λ b. b || list_any is_large q) test ∙ small_terms)

-- no coefficient is large
both_false : (a b : Bool) → (a || b) ≡ false → (a ≡ false) × (b ≡ false)
both_false true b e = absurd (cc e)
both_false false b e = (refl, e)

small_term : (t : Term) → is_large t ≡ false → unsigned_abs t.1 < size_limit
small_term t h = grind (arith, nat_tests)

pub small_sizes : (ts : List Term) → list_any is_large ts ≡ false → All (λ t. unsigned_abs t.1 < size_limit) ts
small_sizes [] h = All-nil (λ t. unsigned_abs t.1 < size_limit)
small_sizes (t ∷ ts) h =
    let parts = both_false (is_large t) (list_any is_large ts) h in
    All-cons (λ u. unsigned_abs u.1 < size_limit) t ts (small_term t parts.0) (small_sizes ts parts.1)

quotient_above : (den g : ℕ) → g ∣ den → 0 < den → 0 < den / g
quotient_above den g h above = let P : ℕ → Type 0 = λ k. 0 < k in by_quotient (den / g) refl
  where
    by_quotient : (k : ℕ) → k ≡ den / g → 0 < den / g
    by_quotient zero e = let whole = div-mul_cancel g h in absurd (omega (arith, whole, ap (λ m. m * g) e))
    by_quotient (suc k) e = omega (arith, e)

pub rat_poly : GcdIsGreatest → (den g : ℕ) (ts q : List Term) → 0 < den → 0 < g → g ≡ common_divisor den ts → times (pos g) q ≡ ts → IsPolynomial q → den / g < size_limit → list_any is_large q ≡ false → IsRatPoly (over q (den / g))
rat_poly greatest den g ts q positive above is back polynomial small_den small_terms = record {
  polynomial = polynomial;
  positive = quotient_above den g (common_divides_den greatest den g ts is) positive;
  den = small_den;
  sizes = small_sizes q small_terms;
  lowest = nothing_common greatest den g ts q above is back;
}

-- ---- numbers and parameters

constant_parts : GcdIsUnique → (number : ℤ) (den : ℕ) (b : Bool) → (b ≡ true → number ≡ pos 0) → unsigned_abs number < size_limit → gcd (unsigned_abs number) den ≡ 1
    → All (λ (t : Term). unsigned_abs t.1 < size_limit) (cond b [] ((0, number) ∷ [])) × (common_divisor den (cond b [] ((0, number) ∷ [])) ≡ 1)
constant_parts unique number den true tells size common =
    let none : gcd 0 den ≡ 1 = ap (λ z. gcd (unsigned_abs z) den) (sym (tells refl)) ∙ common in
    (All-nil (λ (t : Term). unsigned_abs t.1 < size_limit), unique 0 den den (dvd-zero den, dvd_refl den, λ k p q. q) ∙ none)
constant_parts unique number den false tells size common =
    (All-cons (λ (t : Term). unsigned_abs t.1 < size_limit) (0, number) [] size (All-nil (λ (t : Term). unsigned_abs t.1 < size_limit)), common)

pub number_poly : GcdIsUnique → (number : ℤ) (den : ℕ) (p : List Term) → p ≡ constant number → IsPolynomial p → 0 < den → den < size_limit → unsigned_abs number < size_limit → gcd (unsigned_abs number) den ≡ 1 → IsRatPoly (over p den)
number_poly unique number den p e polynomial positive small_den size common =
    let parts = constant_parts unique number den (int_eq number (pos 0)) (Decides-int_eq number (pos 0)).0 size common in
    record {
      polynomial = polynomial;
      positive = positive;
      den = small_den;
      sizes = subst (All (λ t. unsigned_abs t.1 < size_limit)) (sym e) parts.0;
      lowest = ap (common_divisor den) e ∙ parts.1;
    }

pub parameter_poly : (set : ℕ) (p : List Term) → p ≡ (set, pos 1) ∷ [] → IsPolynomial p → IsRatPoly (over p 1)
unfolding gcd
parameter_poly set p e polynomial = record {
  polynomial = polynomial;
  positive = omega arith;
  den = omega arith;
  sizes = subst (All (λ t. unsigned_abs t.1 < size_limit)) (sym e) (All-cons (λ t. unsigned_abs t.1 < size_limit) (set, pos 1) [] (omega arith) (All-nil (λ t. unsigned_abs t.1 < size_limit)));
  lowest = ap (common_divisor 1) e;
}

-- ---- the other sign

negative_size : (ts : List Term) → All (λ t. unsigned_abs t.1 < size_limit) ts → All (λ t. unsigned_abs t.1 < size_limit) (times (negsuc 0) ts)
negative_size [] h = All-nil (λ t. unsigned_abs t.1 < size_limit)
negative_size (t ∷ ts) h =
    let e = unsigned_abs-mul (negsuc 0) t.1 in
    All-cons (λ u. unsigned_abs u.1 < size_limit) (t.0, negsuc 0 *ℤ t.1) (times (negsuc 0) ts)
    (omega (arith, e, All-head (λ u. unsigned_abs u.1 < size_limit) t ts h)) (negative_size ts (All-tail (λ u. unsigned_abs u.1 < size_limit) t ts h))

pub negative_poly : MultiplesKeepTerms → (ts q : List Term) (den : ℕ) → q ≡ scaled (negsuc 0) ts → IsPolynomial q → IsRatPoly (over ts den) → IsRatPoly (over q den)
negative_poly kept ts q den e polynomial h =
    let plain : times (negsuc 0) ts ≡ q = kept (negsuc 0) ts (λ z. cc z) h.polynomial ∙ sym e in
    record {
      polynomial = polynomial;
      positive = h.positive;
      den = h.den;
      sizes = subst (All (λ t. unsigned_abs t.1 < size_limit)) plain (negative_size ts h.sizes);
      lowest = ap (common_divisor den) (sym plain) ∙ common-negative den ts ∙ h.lowest;
    }

-- ---- what is refused

pub multiple_refused : MultiplesFit → (e : PolyError) (by : ℤ) (a : OverOne) (r target : Result OverOne ExprError) → IsRatPoly a → unsigned_abs by < size_limit → IsAnswer (Err e) (held.narrow (scaled by a.terms))
    → r ≡ Err (cause_of e) → r ≢ Err Memory → r ≡ target
multiple_refused fits e by a r target h size answer is = memory_alone e (scaled by a.terms) r target answer (fits by a h size) is

pub sum_refused : SumsFit → (e : PolyError) (a b : OverOne) (left right : List Term) (r target : Result OverOne ExprError) → IsRatPoly a → IsRatPoly b → left ≡ scaled (pos b.den) a.terms → right ≡ scaled (pos a.den) b.terms
    → IsAnswer (Err e) (held.narrow (poly.sum left right)) → r ≡ Err (cause_of e) → r ≢ Err Memory → r ≡ target
sum_refused fits e a b left right r target h k f g answer is =
    memory_alone e (poly.sum (scaled (pos b.den) a.terms) (scaled (pos a.den) b.terms)) r target
    (λ some. answer some ∙ ap (λ x. held.narrow (poly.sum x right)) f ∙ ap (λ y. held.narrow (poly.sum (scaled (pos b.den) a.terms) y)) g)
    (fits (pos b.den) (pos a.den) a b h k k.den h.den) is

-- a product by the test of its supports
product_by : ProductsFit → (e : PolyError) (a b : OverOne) (r : Result OverOne ExprError) (t : Bool) → (t ≡ true → bit_and (support a.terms) (support b.terms) ≡ 0) → IsRatPoly a → IsRatPoly b
    → IsAnswer (Err e) (cond t (held.narrow (poly.product a.terms b.terms)) (Err fault.SharedParameter)) → r ≡ Err (cause_of e) → r ≢ Err Memory
    → r ≡ cond t (narrow (poly.product a.terms b.terms) (a.den * b.den)) (Err SharedParameter)
product_by fits e a b r true tells h k answer is some =
    memory_alone e (poly.product a.terms b.terms) r _ answer (fits a b h k (tells refl)) is some
product_by fits fault.SharedParameter a b r false tells h k answer is some = is
product_by fits fault.Wide a b r false tells h k answer is some = let e = answer (λ e. cc) in cc
product_by fits fault.Memory a b r false tells h k answer is some = absurd (some is)

same_number : (m n : ℕ) → (m == n) ≡ true → m ≡ n
same_number m n e = grind (arith, nat_tests)

pub product_refused : ProductsFit → (e : PolyError) (a b : OverOne) (r : Result OverOne ExprError) → IsRatPoly a → IsRatPoly b → IsAnswer (Err e) (product_answer a.terms b.terms) → r ≡ Err (cause_of e) → r ≢ Err Memory → r ≡ product a b
product_refused fits e a b r h k = product_by fits e a b r (bit_and (support a.terms) (support b.terms) == 0) (same_number _ 0) h k

-- ---- division by a number

pub sign_size : (number : ℤ) (size : ℕ) → unsigned_abs (with_sign number size) ≡ size
sign_size (pos n) size = refl
sign_size (negsuc n) zero = refl
sign_size (negsuc n) (suc size) = refl

pub by_some : (a : OverOne) (number : ℤ) (d : ℕ) → number ≢ pos 0 → by_number a number d ≡ narrow (scaled (with_sign number d) a.terms) (a.den * unsigned_abs number)
by_some a (pos zero) d some = absurd (some refl)
by_some a (pos (suc n)) d some = refl
by_some a (negsuc n) d some = refl

pub positive_size : (z : ℤ) → pos 0 <ℤ z → 0 < unsigned_abs z
positive_size (pos zero) h = omega (arith, linear)
positive_size (pos (suc n)) h = omega arith
positive_size (negsuc n) h = omega arith

-- ---- the search for a large coefficient

large_size : (t : Term) → size_limit ≤ unsigned_abs t.1 → is_large t ≡ true
large_size t h = grind (arith, nat_tests)

pub small_size : (t : Term) → unsigned_abs t.1 < size_limit → is_large t ≡ false
small_size t h = grind (arith, nat_tests)

-- the term whose coefficient is looked at, for each of some terms
module _ (of : Term → Term) where
  pub large_at : (ts : List Term) (i : ℕ) (t : Term) → slice_get ts i ≡ Some t → size_limit ≤ unsigned_abs (of t).1 → true ≡ list_any (λ u. is_large (of u)) ts
  large_at ts i t at large =
      sym (list_any_at (λ u. is_large (of u)) ts i t (slice_get_within ts i t at) (ap (λ u. is_large (of u)) (get_or_from_slice_get ts i t t at) ∙ large_size (of t) large))

  pub small_more : (ts : List Term) (i : ℕ) (t : Term) → slice_get ts i ≡ Some t → unsigned_abs (of t).1 < size_limit → list_any (λ u. is_large (of u)) (take i ts) ≡ false → list_any (λ u. is_large (of u)) (take (i + 1) ts) ≡ false
  small_more ts i t at size before =
      list_any_more (λ u. is_large (of u)) ts i t (slice_get_within ts i t at) ∙ ap (λ b. b || is_large (of (get_or ts i t))) before ∙ ap (λ u. is_large (of u)) (get_or_from_slice_get ts i t t at) ∙ small_size (of t) size
