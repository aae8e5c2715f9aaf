-- The sides of a bound: the greatest number on the lower one, and what is shown by numbers beside it.
use Rattle.std.proofs.Common.{◌≡◌, ℕ, zero, suc, ◌+◌, ◌*◌, ◌/◌, ◌%◌, ◌^◌, ◌<◌, ◌≤◌, true, false, true≢false, ℤ, pos, ◌+ℤ◌, ◌-ℤ◌, ◌*ℤ◌, ◌≤ℤ◌, ◌<ℤ◌, SFits, w64, to_z, sym, subst, arith, mul-le-mul, mod-eq_of_lt, div-add-mod', le_of_mul-le-mul_right, pow_mono}
use Rattle.std.proofs.lemmas.Int.{to_z_pos}
use Rattle.std.proofs.lemmas.Nat.{mod_below}
use Rattle.lift_poly.proofs.Ring.{linear, mul-comm, add-mul, one-mul, mul-le}
use Rattle.lift_cert.specs.declared.bound.Bound.{Bound}
use Rattle.property_text.specs.declared.op.Op.{Op}
use Rattle.property_text.specs.declared.op.Op.TheVariants.{AtMost, Below, AtLeast, Above}
use Rattle.lift_dual.specs.Property.{IsLowSide, IsHighSide, is_closed}

-- ---- the greatest number on the lower side

-- q is the quotient of num times 2 ^ w by den, and r is what is left
pub record IsQuotient (num den w q r : ℕ) : Type 0 where
  pub fits : q ≤ 2 ^ 40
  pub parts : q * den + r ≡ num * 2 ^ w
  pub rest : r < den

pub is_whole : (num w : ℕ) → num < 2 ^ 32 → w ≤ 40 → num * 2 ^ w % 2 ^ 128 ≡ num * 2 ^ w
is_whole num w narrow small =
    let power : 2 ^ w ≤ 2 ^ 40 = pow_mono {j = 40} small in
    let thin : num ≤ 2 ^ 32 = omega (arith, narrow) in
    let wide : num * 2 ^ w ≤ 2 ^ 32 * 2 ^ 40 = mul-le-mul thin power in
    mod-eq_of_lt (omega (arith, wide))

pub is_quotient : (num den w : ℕ) → num ≤ den → 1 ≤ den → w ≤ 40 → IsQuotient num den w (num * 2 ^ w / den) (num * 2 ^ w % den)
is_quotient num den w most positive small =
    let power : 2 ^ w ≤ 2 ^ 40 = pow_mono {j = 40} small in
    let most : num * 2 ^ w ≤ den * 2 ^ 40 = mul-le-mul most power in
    let parts : num * 2 ^ w / den * den + num * 2 ^ w % den ≡ num * 2 ^ w = div-add-mod' (num * 2 ^ w) den in
    let below : num * 2 ^ w / den * den ≤ 2 ^ 40 * den = omega (arith, parts, most) in
    record {
      fits = le_of_mul-le-mul_right below positive;
      parts = parts;
      rest = mod_below (num * 2 ^ w) den positive;
    }

pub quotient_fits : (q : ℕ) → q ≤ 2 ^ 40 → SFits w64 (pos q)
quotient_fits q le = record { sfits = omega (arith, linear) }

pub quotient_is : (q : ℕ) → q ≤ 2 ^ 40 → to_z w64 q ≡ pos q
quotient_is q le = to_z_pos w64 q (omega arith)

pub less_fits : (q : ℕ) → q ≤ 2 ^ 40 → SFits w64 (pos q -ℤ pos 1)
less_fits zero le = record { sfits = omega arith }
less_fits (suc q) le =
    let step : pos (suc q) -ℤ pos 1 ≡ pos q = omega (arith, linear) in
    subst (λ z. SFits w64 z) (sym step) (quotient_fits q (omega (arith, le)))

less_one : (z : ℤ) → (z -ℤ pos 1) +ℤ pos 1 ≡ z
less_one z = omega (arith, linear)

pub and_one : (q : ℕ) → (pos q -ℤ pos 1) +ℤ pos 1 ≡ pos q
and_one q = less_one (pos q)

module _ (bound : Bound) (w q r : ℕ) (is : IsQuotient bound.num bound.den w q r) where
  pub closed_low : (op : Op) → is_closed op ≡ true → IsLowSide op bound w (pos q)
  closed_low AtMost e = omega (arith, linear, is.parts)
  closed_low Below e = absurd (true≢false (sym e))
  closed_low AtLeast e = absurd (true≢false (sym e))
  closed_low Above e = omega (arith, linear, is.parts)

  pub closed_high : (op : Op) → is_closed op ≡ true → IsHighSide op bound w (pos q +ℤ pos 1)
  closed_high AtMost e = omega (arith, linear, is.parts, is.rest)
  closed_high Below e = absurd (true≢false (sym e))
  closed_high AtLeast e = absurd (true≢false (sym e))
  closed_high Above e = omega (arith, linear, is.parts, is.rest)

  -- the bound lies above it
  pub apart_low : (op : Op) → is_closed op ≡ false → 1 ≤ r → IsLowSide op bound w (pos q)
  apart_low AtMost e some = absurd (true≢false e)
  apart_low Below e some = omega (arith, linear, is.parts, some)
  apart_low AtLeast e some = omega (arith, linear, is.parts, some)
  apart_low Above e some = absurd (true≢false e)

  pub apart_high : (op : Op) → is_closed op ≡ false → IsHighSide op bound w (pos q +ℤ pos 1)
  apart_high AtMost e = absurd (true≢false e)
  apart_high Below e = omega (arith, linear, is.parts, is.rest)
  apart_high AtLeast e = omega (arith, linear, is.parts, is.rest)
  apart_high Above e = absurd (true≢false e)

-- a number below one that is the bound
module _ (bound : Bound) (w : ℕ) (positive : 1 ≤ bound.den) (z : ℤ) (exact : ((z +ℤ pos 1) *ℤ pos bound.den) ≡ (pos bound.num *ℤ pos (2 ^ w))) where
  pub exact_low : (op : Op) → is_closed op ≡ false → IsLowSide op bound w z
  exact_low AtMost e = absurd (true≢false e)
  exact_low Below e = omega (arith, linear, exact, positive, add-mul z (pos 1) (pos bound.den), one-mul (pos bound.den))
  exact_low AtLeast e = omega (arith, linear, exact, positive, add-mul z (pos 1) (pos bound.den), one-mul (pos bound.den))
  exact_low Above e = absurd (true≢false e)

  pub exact_high : (op : Op) → is_closed op ≡ false → IsHighSide op bound w (z +ℤ pos 1)
  exact_high AtMost e = absurd (true≢false e)
  exact_high Below e = omega (arith, linear, exact)
  exact_high AtLeast e = omega (arith, linear, exact)
  exact_high Above e = absurd (true≢false e)

-- ---- beside it

module _ (bound : Bound) (w : ℕ) where
  pub low_below : (op : Op) (limit n : ℤ) → IsLowSide op bound w limit → n ≤ℤ limit → IsLowSide op bound w n
  low_below AtMost limit n low le = let scaled = mul-le (pos bound.den) n limit (omega (arith, linear)) le in omega (arith, linear, scaled, low, mul-comm (pos bound.den) n, mul-comm (pos bound.den) limit)
  low_below Below limit n low le = let scaled = mul-le (pos bound.den) n limit (omega (arith, linear)) le in omega (arith, linear, scaled, low, mul-comm (pos bound.den) n, mul-comm (pos bound.den) limit)
  low_below AtLeast limit n low le = let scaled = mul-le (pos bound.den) n limit (omega (arith, linear)) le in omega (arith, linear, scaled, low, mul-comm (pos bound.den) n, mul-comm (pos bound.den) limit)
  low_below Above limit n low le = let scaled = mul-le (pos bound.den) n limit (omega (arith, linear)) le in omega (arith, linear, scaled, low, mul-comm (pos bound.den) n, mul-comm (pos bound.den) limit)

  pub high_above : (op : Op) (limit n : ℤ) → IsHighSide op bound w (limit +ℤ pos 1) → limit <ℤ n → IsHighSide op bound w n
  high_above AtMost limit n high lt = let scaled = mul-le (pos bound.den) (limit +ℤ pos 1) n (omega (arith, linear)) (omega (arith, linear, lt)) in omega (arith, linear, scaled, high, mul-comm (pos bound.den) (limit +ℤ pos 1), mul-comm (pos bound.den) n)
  high_above Below limit n high lt = let scaled = mul-le (pos bound.den) (limit +ℤ pos 1) n (omega (arith, linear)) (omega (arith, linear, lt)) in omega (arith, linear, scaled, high, mul-comm (pos bound.den) (limit +ℤ pos 1), mul-comm (pos bound.den) n)
  high_above AtLeast limit n high lt = let scaled = mul-le (pos bound.den) (limit +ℤ pos 1) n (omega (arith, linear)) (omega (arith, linear, lt)) in omega (arith, linear, scaled, high, mul-comm (pos bound.den) (limit +ℤ pos 1), mul-comm (pos bound.den) n)
  high_above Above limit n high lt = let scaled = mul-le (pos bound.den) (limit +ℤ pos 1) n (omega (arith, linear)) (omega (arith, linear, lt)) in omega (arith, linear, scaled, high, mul-comm (pos bound.den) (limit +ℤ pos 1), mul-comm (pos bound.den) n)
