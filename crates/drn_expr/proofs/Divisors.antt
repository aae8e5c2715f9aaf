-- Lowest terms: the greatest common divisor of a denominator and all coefficients.
use Rattle.std.proofs.Common.{◌≡◌, ℕ, zero, suc, ◌*◌, ◌/◌, ◌<◌, List, [], ◌∷◌, pos, negsuc, ◌*ℤ◌, unsigned_abs, refl, sym, ap, subst, ◌∙◌, arith}
use Rattle.std.specs.Int.{◌∣◌}
use Rattle.std.proofs.Math.Nat.{mul-dvd-mul_right, dvd_of_mul-dvd-mul_right, div-mul_cancel}
use Rattle.std.proofs.lemmas.Nat.Gcd.{dvd_trans, dvd_refl, mod-eq-zero_of_dvd, le_of_dvd}
use Rattle.std.proofs.lemmas.Int.{unsigned_abs-mul}
use Rattle.std.proofs.lemmas.List.Elements.{All-nil, All-cons, All-head, All-tail}
use Rattle.lift_frac.specs.Gcd.{gcd}
use Rattle.lift_frac.specs.Laws.{GcdIsGreatest, GcdIsUnique}
use Rattle.lift_poly.specs.Polynomial.{Term}
use Rattle.lift_poly.specs.Arithmetic.{times, DividesEach, IsContent}
use Rattle.drn_expr.specs.RatPolys.{common_divisor}

-- it divides the number and each coefficient
pub common_divides : GcdIsGreatest → (d : ℕ) (ts : List Term) → (common_divisor d ts ∣ d) × DividesEach (common_divisor d ts) ts
common_divides greatest d [] = (dvd_refl d, All-nil (λ t. d ∣ unsigned_abs t.1))
common_divides greatest d (t ∷ ts) =
    let g : ℕ = common_divisor d (t ∷ ts) in
    let is = greatest (unsigned_abs t.1) (common_divisor d ts) in
    let rest = common_divides greatest d ts in
    (dvd_trans g is.1 rest.0, All-cons (λ u. g ∣ unsigned_abs u.1) t ts is.0 (λ k e lt. dvd_trans g is.1 (rest.1 k e lt)))

-- and each other such number divides it
pub common_greatest : GcdIsGreatest → (k d : ℕ) (ts : List Term) → k ∣ d → DividesEach k ts → k ∣ common_divisor d ts
common_greatest greatest k d [] h each = h
common_greatest greatest k d (t ∷ ts) h each =
    (greatest (unsigned_abs t.1) (common_divisor d ts)).2 k (All-head (λ u. k ∣ unsigned_abs u.1) t ts each) (common_greatest greatest k d ts h (All-tail (λ u. k ∣ unsigned_abs u.1) t ts each))

-- so it is the greatest common divisor of the number and the content
pub common_is : GcdIsGreatest → GcdIsUnique → (d content g : ℕ) (ts : List Term) → IsContent ts content → g ≡ gcd content d → g ≡ common_divisor d ts
common_is greatest unique d content g ts h e =
    let both = common_divides greatest d ts in
    e ∙ sym (unique content d (common_divisor d ts)
    (h.greatest (common_divisor d ts) both.1, both.0, λ k p q. common_greatest greatest k d ts q (λ i u lt. dvd_trans k p (h.divides i u lt))))

-- ---- after the division

times_divides : (k g : ℕ) (ts : List Term) → DividesEach k ts → DividesEach (k * g) (times (pos g) ts)
times_divides k g [] each = All-nil (λ t. (k * g) ∣ unsigned_abs t.1)
times_divides k g (t ∷ ts) each =
    let size : unsigned_abs t.1 * g ≡ unsigned_abs (pos g *ℤ t.1) = let e = unsigned_abs-mul (pos g) t.1 in omega (arith, e) in
    let P : ℕ → Type 0 = λ n. (k * g) ∣ n in
    All-cons (λ u. (k * g) ∣ unsigned_abs u.1) (t.0, pos g *ℤ t.1) (times (pos g) ts)
    (subst P size (mul-dvd-mul_right k (All-head (λ u. k ∣ unsigned_abs u.1) t ts each) g))
    (times_divides k g ts (All-tail (λ u. k ∣ unsigned_abs u.1) t ts each))

one_from : (k : ℕ) → k ∣ 1 → k ≡ 1
one_from zero h = let e = mod-eq-zero_of_dvd zero h in absurd (omega (arith, e))
one_from (suc k) h = let above : 0 < 1 = omega arith in omega (arith, le_of_dvd above h)

-- with 1 nothing is in common
pub common-one : GcdIsGreatest → (ts : List Term) → common_divisor 1 ts ≡ 1
common-one greatest ts = one_from (common_divisor 1 ts) (common_divides greatest 1 ts).0

-- nothing is left in common
pub nothing_common : GcdIsGreatest → (d g : ℕ) (ts q : List Term) → 0 < g → g ≡ common_divisor d ts → times (pos g) q ≡ ts → common_divisor (d / g) q ≡ 1
nothing_common greatest d g ts q above e back =
    let k : ℕ = common_divisor (d / g) q in
    let both = common_divides greatest (d / g) q in
    let P : ℕ → Type 0 = λ n. (k * g) ∣ n in
    let g_divides : g ∣ d = let Q : ℕ → Type 0 = λ n. n ∣ d in subst Q (sym e) (common_divides greatest d ts).0 in
    let in_den : (k * g) ∣ d = subst P (div-mul_cancel g g_divides) (mul-dvd-mul_right k both.0 g) in
    let in_each : DividesEach (k * g) ts = subst (DividesEach (k * g)) back (times_divides k g q both.1) in
    let in_g : (k * g) ∣ (1 * g) = subst P (sym e ∙ omega arith) (common_greatest greatest (k * g) d ts in_den in_each) in
    one_from k (dvd_of_mul-dvd-mul_right {k = g} k {n = 1} above in_g)

-- the other sign changes nothing
pub common-negative : (d : ℕ) (ts : List Term) → common_divisor d (times (negsuc 0) ts) ≡ common_divisor d ts
common-negative d [] = refl
common-negative d (t ∷ ts) =
    let size : unsigned_abs (negsuc 0 *ℤ t.1) ≡ unsigned_abs t.1 = let e = unsigned_abs-mul (negsuc 0) t.1 in omega (arith, e) in
    ap (λ n. gcd n (common_divisor d (times (negsuc 0) ts))) size ∙ ap (λ n. gcd (unsigned_abs t.1) n) (common-negative d ts)
