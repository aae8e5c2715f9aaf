-- What `Frac::reduced` makes is the ratio in lowest terms.
use Rattle.std.proofs.Common.{◌≡◌, ◌≢◌, ◌*◌, ◌/◌, ◌<◌, ◌≤◌, ℕ, zero, suc, ℤ, pos, negsuc, ◌*ℤ◌, ◌<ℤ◌, sym, ap, subst, ◌∙◌, refl, arith, to_z, FitsSigned, Result, Ok, Err, Bool, true, false, cond}
use Rattle.std.specs.Prelude.{unsigned_abs, nat_le, ◌||◌}
use Rattle.std.specs.Int.{w128, int_signum, ◌∣◌}
use Rattle.std.proofs.Math.Nat.{div-mul_cancel, zero-mul, mul-le-mul}
use Rattle.std.proofs.lemmas.Int.{ints, to_z-of_z, to_z_pos, unsigned_abs-mul, fits_signed_from_abs}
use Rattle.std.proofs.lemmas.Bool.Decides.{nat_tests}
use Rattle.lift_frac.specs.Limits.{size_limit}
use Rattle.lift_frac.specs.Gcd.{gcd}
use Rattle.lift_frac.specs.Ratio.{Ratio, lowest, fraction}
use Rattle.lift_frac.specs.declared.error.FracError.{FracError}
use Rattle.lift_frac.specs.declared.error.FracError.TheVariants.{Wide, Zero}
use Rattle.lift_frac.proofs.Euclid.{gcd_is, positive}
use Rattle.lift_frac.proofs.LowestTerms.{gcd-quotients, size_above, same_ratio}
use Rattle.lift_frac.proofs.Products.{kept, kept-is, exact_product, nonzero_size}

signum_size : (n : ℤ) → unsigned_abs (int_signum n) ≤ 1
signum_size (pos n) = omega arith
signum_size (negsuc n) = omega arith

signs_size : (n d : ℤ) → unsigned_abs (int_signum n *ℤ int_signum d) ≤ 1
signs_size n d = omega (arith, mul-le-mul (signum_size n) (signum_size d), unsigned_abs-mul (int_signum n) (int_signum d))

-- a number with a sign is no larger
signed_size : (n d : ℤ) (x : ℕ) → unsigned_abs (int_signum n *ℤ int_signum d *ℤ pos x) ≤ x
signed_size n d x =
    let same : x ≤ x = omega arith in
    omega (arith, mul-le-mul (signs_size n d) same, unsigned_abs-mul (int_signum n *ℤ int_signum d) (pos x))

-- a small unsigned number, cast
pub cast_is : (y : ℕ) → y < size_limit → to_z w128 y ≡ pos y
cast_is y h = to_z_pos w128 y (omega arith)

factors : (n d s t : ℤ) (x : ℕ) → s ≡ int_signum n → t ≡ int_signum d → x < size_limit
    → kept (kept s *ℤ kept t) *ℤ to_z w128 x ≡ int_signum n *ℤ int_signum d *ℤ pos x
factors n d s t x e f h =
    let signs = exact_product (int_signum n) (int_signum d) (omega (arith, signum_size n)) (omega (arith, signum_size d)) in
    ap (λ k. kept (kept k *ℤ kept t) *ℤ to_z w128 x) e ∙ ap (λ k. kept (kept (int_signum n) *ℤ kept k) *ℤ to_z w128 x) f
    ∙ ap (λ k. k *ℤ to_z w128 x) signs ∙ ap (λ k. int_signum n *ℤ int_signum d *ℤ k) (cast_is x h)

-- what stands above the line, as the code makes it
signed_is : (n d s t : ℤ) (x : ℕ) → s ≡ int_signum n → t ≡ int_signum d → x < size_limit
    → kept (kept (kept s *ℤ kept t) *ℤ to_z w128 x) ≡ int_signum n *ℤ int_signum d *ℤ pos x
signed_is n d s t x e f h =
    ap kept (factors n d s t x e f h) ∙ kept-is (int_signum n *ℤ int_signum d *ℤ pos x) (omega (arith, signed_size n d x))

pub signed_fits : (n d s t : ℤ) (x : ℕ) → s ≡ int_signum n → t ≡ int_signum d → x < size_limit → FitsSigned w128 (kept (kept s *ℤ kept t) *ℤ to_z w128 x)
signed_fits n d s t x e f h =
    let same = factors n d s t x e f h in
    let P : ℤ → Type 0 = λ z. FitsSigned w128 z in
    subst P (sym same) (fits_signed_from_abs w128 (int_signum n *ℤ int_signum d *ℤ pos x) (omega (arith, signed_size n d x)))

-- the numbers that the code has at hand where it answers a fraction: the two parts and their sizes
pub record IsReduced (n d num den : ℤ) (x y : ℕ) : Type 0 where
  pub nonzero : d ≢ pos 0
  pub num_is : num ≡ int_signum n *ℤ int_signum d *ℤ pos x
  pub den_is : den ≡ pos y
  pub above : x ≡ unsigned_abs n / gcd (unsigned_abs n) (unsigned_abs d)
  pub below : y ≡ unsigned_abs d / gcd (unsigned_abs n) (unsigned_abs d)

-- what the code computes, from what its calls answer
pub is_reduced : {s t : ℤ} {a b g : ℕ} (n d : ℤ) → FitsSigned w128 n → FitsSigned w128 d → d ≢ pos 0
    → s ≡ int_signum (kept n) → t ≡ int_signum (kept d) → a ≡ unsigned_abs (kept n) → b ≡ unsigned_abs (kept d) → g ≡ gcd a b
    → a / g < size_limit → b / g < size_limit → IsReduced n d (kept (kept (kept s *ℤ kept t) *ℤ to_z w128 (a / g))) (to_z w128 (b / g)) (a / g) (b / g)
is_reduced {s} {t} {a} {b} {g} n d fits fits_below nonzero sign sign_below above below divisor small small_below =
    let num = to_z-of_z w128 n fits in
    let den = to_z-of_z w128 d fits_below in
    let a_is : a ≡ unsigned_abs n = above ∙ ap unsigned_abs num in
    let b_is : b ≡ unsigned_abs d = below ∙ ap unsigned_abs den in
    record {
      nonzero = nonzero;
      num_is = signed_is n d s t (a / g) (sign ∙ ap int_signum num) (sign_below ∙ ap int_signum den) small;
      den_is = cast_is (b / g) small_below;
      above = cc;
      below = cc;
    }

num_size : {n d num den : ℤ} {x y : ℕ} → IsReduced n d num den x y → unsigned_abs num ≡ x
num_size {n} {d} {num} {den} {x} {y} r =
    let size = size_above n d (gcd (unsigned_abs n) (unsigned_abs d)) r.nonzero in
    let sized : unsigned_abs num ≡ unsigned_abs (int_signum n *ℤ int_signum d *ℤ pos (unsigned_abs n / gcd (unsigned_abs n) (unsigned_abs d))) =
    ap unsigned_abs (r.num_is ∙ ap (λ k. int_signum n *ℤ int_signum d *ℤ pos k) r.above) in
    sized ∙ size ∙ sym r.above

divisor_positive : (n d : ℤ) → d ≢ pos 0 → 0 < gcd (unsigned_abs n) (unsigned_abs d)
divisor_positive n d h = positive (unsigned_abs n) (unsigned_abs d) _ (gcd_is _ _) (nonzero_size d h)

-- a divisor goes into a number above 0 at least once
quotient_positive : (b g : ℕ) → g ∣ b → 0 < b → 0 < b / g
quotient_positive b g h above = by_quotient (b / g) refl
  where
    by_quotient : (x : ℕ) → x ≡ b / g → 0 < b / g
    by_quotient zero e = let whole = div-mul_cancel g h in absurd (omega (arith, whole, ap (λ k. k * g) e, zero-mul g))
    by_quotient (suc x) e = omega (arith, e)

pub den_positive : {n d num den : ℤ} {x y : ℕ} → IsReduced n d num den x y → pos 0 <ℤ den
den_positive {n} {d} {num} {den} {x} {y} r =
    let quotient = quotient_positive (unsigned_abs d) _ (gcd_is (unsigned_abs n) (unsigned_abs d)).1 (nonzero_size d r.nonzero) in
    omega (arith, ints, r.den_is, r.below, quotient)

pub no_common_factor : {n d num den : ℤ} {x y : ℕ} → IsReduced n d num den x y → gcd (unsigned_abs num) (unsigned_abs den) ≡ 1
no_common_factor {n} {d} {num} {den} {x} {y} r =
    let none = gcd-quotients (unsigned_abs n) (unsigned_abs d) _ (divisor_positive n d r.nonzero) (gcd_is _ _) in
    ap (λ k. gcd k (unsigned_abs den)) (num_size r ∙ r.above) ∙ ap (λ k. gcd (unsigned_abs n / gcd (unsigned_abs n) (unsigned_abs d)) k) (ap unsigned_abs r.den_is ∙ r.below) ∙ none

pub small_above : {n d num den : ℤ} {x y : ℕ} → IsReduced n d num den x y → x < size_limit → unsigned_abs num < size_limit
small_above {n} {d} {num} {den} {x} {y} r h = omega (arith, num_size r)

pub small_below : {n d num den : ℤ} {x y : ℕ} → IsReduced n d num den x y → y < size_limit → unsigned_abs den < size_limit
small_below {n} {d} {num} {den} {x} {y} r h = omega (arith, ap unsigned_abs r.den_is)

small_tests : (x y : ℕ) → x < size_limit → y < size_limit → (nat_le size_limit x || nat_le size_limit y) ≡ false
small_tests x y h k = grind (arith, nat_tests)

abbrev ratio : ℤ → ℤ → Ratio
ratio num den = record { num = num; den = den }

-- what is answered after the test
abbrev after_test : ℤ → ℤ → Bool → Result Ratio FracError
after_test n d wide = cond wide (Err Wide) (Ok (lowest n d))

-- two small parts are the fraction
pub fraction-narrow : {n d num den : ℤ} {x y : ℕ} → IsReduced n d num den x y → x < size_limit → y < size_limit → Ok (ratio num den) ≡ fraction n d
fraction-narrow {n} {d} {num} {den} {x} {y} r h k =
    let size = size_above n d (gcd (unsigned_abs n) (unsigned_abs d)) r.nonzero in
    let tests = small_tests (unsigned_abs (lowest n d).num) (unsigned_abs (lowest n d).den) (omega (arith, size, r.above)) (omega (arith, r.below)) in
    let num_same = r.num_is ∙ ap (λ k. int_signum n *ℤ int_signum d *ℤ pos k) r.above in
    let den_same = r.den_is ∙ ap pos r.below in
    let parts : ratio num den ≡ lowest n d = ap (λ k. ratio k den) num_same ∙ ap (λ k. ratio (lowest n d).num k) den_same in
    ap Ok parts ∙ sym (ap (after_test n d) tests)

-- a ratio in lowest terms stands to 1 as n to d
pub quotient : {n d num den : ℤ} {x y : ℕ} → IsReduced n d num den x y → num *ℤ d ≡ n *ℤ den
quotient {n} {d} {num} {den} {x} {y} r =
    let same = same_ratio n d (gcd (unsigned_abs n) (unsigned_abs d)) r.nonzero (gcd_is _ _) in
    ap (λ k. k *ℤ d) (r.num_is ∙ ap (λ k. int_signum n *ℤ int_signum d *ℤ pos k) r.above) ∙ same ∙ sym (ap (λ k. n *ℤ k) (r.den_is ∙ ap pos r.below))

neither : (b : Bool) (q : Ratio) → cond b (Err Wide) (Ok q) ≡ Err Zero → ⊥
neither true q h = cc
neither false q h = cc

-- a fraction is wide or there, and its divisor isn't told
pub fraction-zero : (n d : ℤ) → fraction n d ≡ Err Zero → ⊥
fraction-zero n d h = neither _ (lowest n d) h
