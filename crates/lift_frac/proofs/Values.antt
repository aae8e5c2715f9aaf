-- What a literal is worth: a fraction in lowest terms.
use Rattle.std.proofs.Common.{◌≡◌, ◌≢◌, ℕ, zero, suc, ◌-◌, ◌*◌, ◌/◌, ◌^◌, ◌<◌, ◌==◌, Bool, true, false, cond, refl, List, ℤ, pos, ◌<ℤ◌, unsigned_abs, sym, ap, subst, ◌∙◌, arith, Result, Ok, Err, pow-suc}
use Rattle.std.specs.Prelude.{nat_le}
use Rattle.std.proofs.Math.Nat.{div-mul_cancel}
use Rattle.std.proofs.lemmas.Bool.{leb-false, or_parts}
use Rattle.std.proofs.lemmas.Int.{ints}
use Rattle.lift_frac.specs.Limits.{size_limit}
use Rattle.lift_frac.specs.Gcd.{gcd}
use Rattle.lift_frac.specs.Ratio.{Ratio, IsFraction, lowest, is_wide, fraction}
use Rattle.lift_frac.specs.Literal as lit
use Rattle.lift_frac.specs.Literal.{literal_at, is_literal, number, up, down, is_far, scaled, value_of, reading}
use Rattle.lift_frac.specs.declared.error.FracError.{FracError}
use Rattle.lift_frac.specs.declared.error.FracError.TheVariants.{Wide, BadLiteral}
use Rattle.lift_frac.proofs.Euclid.{gcd_is, positive, gcd-one}
use Rattle.lift_frac.proofs.LowestTerms.{gcd-quotients, size_above}
use Rattle.lift_frac.proofs.Products.{nonzero_size}

above_zero : (n : ℕ) → 0 < n → pos 0 <ℤ pos n
above_zero n h = omega (arith, ints)

not_zero : (d : ℕ) → 0 < d → pos d ≢ pos 0
not_zero d h e = omega (arith, ints, e)

ten_above : (k : ℕ) → 0 < 10 ^ k
ten_above zero = omega arith
ten_above (suc k) = let h = ten_above k in omega (arith, pow-suc 10 k)

quotient_above : (q g d : ℕ) → q * g ≡ d → 0 < d → 0 < q
quotient_above zero g d e h = absurd (omega arith)
quotient_above (suc q) g d e h = omega arith

lowest_fraction : (n d : ℤ) → d ≢ pos 0 → is_wide (lowest n d) ≡ false → IsFraction (lowest n d)
lowest_fraction n d h narrow =
    let a : ℕ = unsigned_abs n in
    let b : ℕ = unsigned_abs d in
    let g : ℕ = gcd a b in
    let is = gcd_is a b in
    let size : 0 < b = nonzero_size d h in
    let some = quotient_above (b / g) g b (div-mul_cancel g is.1) size in
    let small = or_parts (nat_le size_limit (unsigned_abs (lowest n d).num)) (nat_le size_limit (b / g)) narrow in
    record {
      positive = above_zero _ some;
      num = leb-false size_limit (unsigned_abs (lowest n d).num) small.0;
      den = leb-false size_limit (b / g) small.1;
      lowest = ap (λ k. gcd k (b / g)) (size_above n d g h) ∙ gcd-quotients a b g (positive a b g is size) is;
    }

narrow_fraction : (q r : Ratio) (b : Bool) → cond b (Err Wide) (Ok q) ≡ Ok r → (b ≡ false → IsFraction q) → IsFraction r
narrow_fraction q r true e h = cc
narrow_fraction q r false e h = let f : q ≡ r = cc in subst IsFraction f (h refl)

pub quotient_fraction : (n d : ℤ) (q : Ratio) → d ≢ pos 0 → fraction n d ≡ Ok q → IsFraction q
quotient_fraction n d q h e = narrow_fraction (lowest n d) q (is_wide (lowest n d)) e (lowest_fraction n d h)

no_fraction : IsFraction (record { num = pos 0; den = pos 1 })
no_fraction = record { positive = above_zero 1 (omega arith); num = omega arith; den = omega arith; lowest = gcd-one 0 }

scaled_by : ℕ → ℕ → ℕ → Bool → Result Ratio FracError
scaled_by n u d far = cond far (Err Wide) (fraction (pos (n * 10 ^ (u - d))) (pos (10 ^ (d - u))))

value_by : ℕ → ℕ → ℕ → Bool → Result Ratio FracError
value_by n u d none = cond none (Ok (record { num = pos 0; den = pos 1 })) (scaled n u d)

reading_by : lit.Literal → Bool → Result Ratio FracError
reading_by l fits = cond fits (value_of l) (Err BadLiteral)

scaled_fraction : (n u d : ℕ) (b : Bool) (r : Ratio) → scaled_by n u d b ≡ Ok r → IsFraction r
unfolding scaled_by
scaled_fraction n u d true r e = cc
scaled_fraction n u d false r e = quotient_fraction (pos (n * 10 ^ (u - d))) (pos (10 ^ (d - u))) r (not_zero _ (ten_above (d - u))) e

scaled-is : (n u d : ℕ) → scaled n u d ≡ scaled_by n u d (is_far n u d)
unfolding scaled_by
scaled-is n u d = refl

value_fraction : (n u d : ℕ) (b : Bool) (r : Ratio) → value_by n u d b ≡ Ok r → IsFraction r
unfolding value_by
value_fraction n u d true r e = let f : record { num = pos 0; den = pos 1 } ≡ r = cc in subst IsFraction f no_fraction
value_fraction n u d false r e = scaled_fraction n u d (is_far n u d) r (sym (scaled-is n u d) ∙ e)

value-is : (l : lit.Literal) → value_of l ≡ value_by (number l) (up l) (down l) (number l == 0)
unfolding value_by
value-is l = refl

pub literal_fraction : (l : lit.Literal) (r : Ratio) → value_of l ≡ Ok r → IsFraction r
literal_fraction l r e = value_fraction (number l) (up l) (down l) (number l == 0) r (sym (value-is l) ∙ e)

reading_fraction_by : (l : lit.Literal) (b : Bool) (r : Ratio) → reading_by l b ≡ Ok r → IsFraction r
unfolding reading_by
reading_fraction_by l true r e = literal_fraction l r e
reading_fraction_by l false r e = cc

reading-is : (text : List ℕ) → reading text ≡ reading_by (literal_at text).0 (is_literal text)
unfolding reading_by
reading-is text = refl

pub reading_fraction : (text : List ℕ) (r : Ratio) → reading text ≡ Ok r → IsFraction r
reading_fraction text r e = reading_fraction_by (literal_at text).0 (is_literal text) r (sym (reading-is text) ∙ e)
