-- Products and sums of numbers below 2^62 in size, at 128 bits.
use Rattle.std.proofs.Common.{◌≡◌, ◌≢◌, ◌^◌, ◌<◌, zero, suc, ℤ, pos, negsuc, ◌+ℤ◌, ◌*ℤ◌, sym, subst, ap, refl, ◌∙◌, arith, to_z, of_z, FitsSigned, mul-pos}
use Rattle.std.specs.Prelude.{unsigned_abs}
use Rattle.std.specs.Int.{w128}
use Rattle.lift_frac.specs.declared.frac.Frac.{Frac}
use Rattle.std.proofs.lemmas.Nat.{mul-lt}
use Rattle.std.proofs.lemmas.Int.{ints, to_z-of_z, unsigned_abs-mul, fits_signed_from_abs}
use Rattle.lift_frac.specs.Limits.{size_limit, product_limit, sum_limit}

-- a number as it comes back from its bits
abbrev pub kept : ℤ → ℤ
kept z = to_z w128 (of_z w128 z)

pub kept-is : (z : ℤ) → unsigned_abs z < 2 ^ 127 → kept z ≡ z
kept-is z h = to_z-of_z w128 z (fits_signed_from_abs w128 z h)

product_size : (a b : ℤ) → unsigned_abs a < size_limit → unsigned_abs b < size_limit → unsigned_abs (a *ℤ b) < product_limit
product_size a b h k = omega (arith, mul-lt _ _ _ _ h k, unsigned_abs-mul a b)

sum_size : (x y : ℤ) → unsigned_abs x < product_limit → unsigned_abs y < product_limit → unsigned_abs (x +ℤ y) < sum_limit
sum_size x y h k = omega (arith, ints)

factors_are : (a b : ℤ) → unsigned_abs a < size_limit → unsigned_abs b < size_limit → kept a *ℤ kept b ≡ a *ℤ b
factors_are a b h k = ap (λ t. t *ℤ kept b) (kept-is a (omega arith)) ∙ ap (λ t. a *ℤ t) (kept-is b (omega arith))

-- a product as the code makes it
pub exact_product : (a b : ℤ) → unsigned_abs a < size_limit → unsigned_abs b < size_limit → kept (kept a *ℤ kept b) ≡ a *ℤ b
exact_product a b h k = ap kept (factors_are a b h k) ∙ kept-is (a *ℤ b) (omega (arith, product_size a b h k))

pub product_fits : (a b : ℤ) → unsigned_abs a < size_limit → unsigned_abs b < size_limit → FitsSigned w128 (kept a *ℤ kept b)
product_fits a b h k =
    let P : ℤ → Type 0 = λ z. FitsSigned w128 z in
    subst P (sym (factors_are a b h k)) (fits_signed_from_abs w128 (a *ℤ b) (omega (arith, product_size a b h k)))

terms_are : (p q : Frac) → kept (kept p.num *ℤ kept q.den) +ℤ kept (kept q.num *ℤ kept p.den) ≡ p.num *ℤ q.den +ℤ q.num *ℤ p.den
terms_are p q =
    ap (λ t. t +ℤ kept (kept q.num *ℤ kept p.den)) (exact_product p.num q.den p.small_num q.small_den)
    ∙ ap (λ t. p.num *ℤ q.den +ℤ t) (exact_product q.num p.den q.small_num p.small_den)

above_line_size : (p q : Frac) → unsigned_abs (p.num *ℤ q.den +ℤ q.num *ℤ p.den) < sum_limit
above_line_size p q = sum_size (p.num *ℤ q.den) (q.num *ℤ p.den) (product_size p.num q.den p.small_num q.small_den) (product_size q.num p.den q.small_num p.small_den)

-- what stands above the line of a sum, as the code makes it
pub exact_sum : (p q : Frac) → kept (kept (kept p.num *ℤ kept q.den) +ℤ kept (kept q.num *ℤ kept p.den)) ≡ p.num *ℤ q.den +ℤ q.num *ℤ p.den
exact_sum p q = ap kept (terms_are p q) ∙ kept-is _ (omega (arith, above_line_size p q))

pub sum_fits : (p q : Frac) → FitsSigned w128 (kept (kept p.num *ℤ kept q.den) +ℤ kept (kept q.num *ℤ kept p.den))
sum_fits p q =
    let P : ℤ → Type 0 = λ z. FitsSigned w128 z in
    subst P (sym (terms_are p q)) (fits_signed_from_abs w128 (p.num *ℤ q.den +ℤ q.num *ℤ p.den) (omega (arith, above_line_size p q)))

pub nonzero_size : (z : ℤ) → z ≢ pos 0 → 0 < unsigned_abs z
nonzero_size (pos zero) g = absurd (g refl)
nonzero_size (pos (suc n)) g = omega arith
nonzero_size (negsuc n) g = omega arith

-- a product is 0 only where a factor is
pub product_nonzero : (a b : ℤ) → a ≢ pos 0 → b ≢ pos 0 → a *ℤ b ≢ pos 0
product_nonzero a b h k e =
    omega (arith, mul-pos (nonzero_size a h) (nonzero_size b k), unsigned_abs-mul a b, ap unsigned_abs e)

pub den_nonzero : (q : Frac) → q.den ≢ pos 0
den_nonzero q e = omega (arith, ints, q.positive_den, e)
