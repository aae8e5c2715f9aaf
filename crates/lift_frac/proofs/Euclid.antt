-- Euclid's steps give the greatest common divisor.
use Rattle.std.proofs.Common.{◌≡◌, ◌*◌, ◌/◌, ◌%◌, ◌<◌, ◌≤◌, ℕ, zero, suc, refl, sym, ap, subst, ◌∙◌, arith}
use Rattle.std.specs.Int.{IsGcd, ◌∣◌}
use Rattle.std.proofs.lemmas.Nat.Gcd.{IsGcd-from_zero, IsGcd-from_mod, same_from_IsGcd, le_of_dvd, mod-eq-zero_of_dvd, dvd_refl, dvd-zero}
use Rattle.std.proofs.Math.Nat.{one-dvd, div-mul_cancel, dvd-mul_left, mul-dvd-mul_left, mul-dvd-mul_right, dvd_of_mul-dvd-mul_left, dvd_of_mul-dvd-mul_right, mul-le-mul_left}
use Rattle.lift_frac.specs.Gcd.{gcd_steps, gcd, lcm}

pub steps_are : (n a b : ℕ) → b ≤ n → IsGcd a b (gcd_steps n a b)
steps_are zero a zero h = IsGcd-from_zero a 0 refl
steps_are zero a (suc b) h = absurd (omega arith)
steps_are (suc n) a zero h = IsGcd-from_zero a 0 refl
steps_are (suc n) a (suc b) h = IsGcd-from_mod a (suc b) _ (steps_are n (suc b) (a % suc b) (omega arith))

pub gcd_is : (a b : ℕ) → IsGcd a b (gcd a b)
unfolding gcd
gcd_is a b = steps_are b a b (omega arith)

pub is_gcd : (a b g : ℕ) → IsGcd a b g → g ≡ gcd a b
is_gcd a b g h = same_from_IsGcd a b g (gcd a b) h (gcd_is a b)

-- one step of the loop
pub step : (a b x y : ℕ) → ((g : ℕ) → IsGcd x y g → IsGcd a b g) → (g : ℕ) → IsGcd y (x % y) g → IsGcd a b g
step a b x y kept g h = kept g (IsGcd-from_mod x y g h)

-- the end of the loop
pub end : (a b x y : ℕ) → ((g : ℕ) → IsGcd x y g → IsGcd a b g) → y ≡ 0 → IsGcd a b x
end a b x y kept none = kept x (IsGcd-from_zero x y none)

pub small : (a b g : ℕ) → IsGcd a b g → 0 < b → g ≤ b
small a b g h pos = le_of_dvd pos h.1

pub positive : (a b g : ℕ) → IsGcd a b g → 0 < b → 0 < g
positive a b zero h pos = let e = mod-eq-zero_of_dvd zero h.1 in absurd (omega (arith, e))
positive a b (suc g) h pos = omega arith

pub gcd-one : (a : ℕ) → gcd a 1 ≡ 1
gcd-one a = sym (is_gcd a 1 1 (one-dvd a, dvd_refl 1, λ d p q. q))

-- ---- least common multiples

pub lcm_multiple : (a b : ℕ) → (a ∣ lcm a b) × (b ∣ lcm a b)
lcm_multiple a b =
    let g = gcd_is a b in
    let P : ℕ → Type 0 = λ k. k ∣ lcm a b in
    (subst P (div-mul_cancel (gcd a b) g.0) (mul-dvd-mul_left (gcd a b) (a / gcd a b) g.1), dvd-mul_left b (a / gcd a b))

pub lcm_at_least : (a b : ℕ) → 0 < b → a ≤ lcm a b
lcm_at_least a b above =
    let g = gcd_is a b in
    let same : a / gcd a b * gcd a b ≡ a = div-mul_cancel (gcd a b) g.0 in
    omega (arith, same, mul-le-mul_left (a / gcd a b) (small a b (gcd a b) g above))

multiple_of_zero : (n m : ℕ) → 0 ∣ m → n ∣ m
multiple_of_zero n m h =
    let none : m ≡ 0 = let e = mod-eq-zero_of_dvd zero h in omega (arith, e) in
    let P : ℕ → Type 0 = λ k. n ∣ k in subst P (sym none) (dvd-zero n)

one_from : (t : ℕ) → t ∣ 1 → t ≡ 1
one_from zero h = let e = mod-eq-zero_of_dvd zero h in absurd (omega (arith, e))
one_from (suc t) h = let above : 0 < 1 = omega arith in omega (arith, le_of_dvd above h)

-- What a common divisor of lcm a b and m leaves of lcm a b is 1, where it is a multiple of a and b: times gcd a b it divides both a and b.
pub lcm_least : (a b m : ℕ) → a ∣ m → b ∣ m → lcm a b ∣ m
lcm_least zero b m h k = multiple_of_zero (lcm 0 b) m h
lcm_least (suc a) zero m h k = multiple_of_zero (lcm (suc a) 0) m k
lcm_least (suc a) (suc b) m h k =
    let g : ℕ = gcd (suc a) (suc b) in
    let l : ℕ = lcm (suc a) (suc b) in
    let is = gcd_is (suc a) (suc b) in
    let multiple = lcm_multiple (suc a) (suc b) in
    let d : ℕ = gcd l m in
    let divides = gcd_is l m in
    let t : ℕ = l / d in
    let whole : t * d ≡ l = div-mul_cancel d divides.0 in
    let product : l * g ≡ suc a * suc b = swapped (suc a / g) (suc b) g ∙ ap (λ n. n * suc b) (div-mul_cancel g is.0) in
    let in_second : t * g ∣ suc b = left (suc a) (suc b) t d g l whole product (divides.2 (suc a) multiple.0 h) (omega arith) in
    let in_first : t * g ∣ suc a = left (suc b) (suc a) t d g l whole (product ∙ commuted (suc a) (suc b)) (divides.2 (suc b) multiple.1 k) (omega arith) in
    let in_both : t * g ∣ 1 * g = let P : ℕ → Type 0 = λ n. t * g ∣ n in subst P (alone g) (is.2 (t * g) in_first in_second) in
    let one : t ≡ 1 = one_from t (dvd_of_mul-dvd-mul_right {k = g} t {n = 1} (positive (suc a) (suc b) g is (omega arith)) in_both) in
    let same : d ≡ l = alone d ∙ ap (λ n. n * d) (sym one) ∙ whole in
    let P : ℕ → Type 0 = λ n. n ∣ m in subst P same divides.1
  where
    swapped : (x y z : ℕ) → (x * y) * z ≡ (x * z) * y
    swapped x y z = omega arith

    commuted : (x y : ℕ) → x * y ≡ y * x
    commuted x y = omega arith

    alone : (x : ℕ) → x ≡ 1 * x
    alone x = omega arith

    left : (x y t d g l : ℕ) → t * d ≡ l → l * g ≡ x * y → x ∣ d → 0 < x → t * g ∣ y
    left x y t d g l whole product h above =
        let in_l : t * x ∣ l = let P : ℕ → Type 0 = λ n. t * x ∣ n in subst P whole (mul-dvd-mul_left x t h) in
        let times_g : t * x * g ∣ x * y = let P : ℕ → Type 0 = λ n. t * x * g ∣ n in subst P product (mul-dvd-mul_right (t * x) in_l g) in
        let moved : t * x * g ≡ x * (t * g) = omega arith in
        let P : ℕ → Type 0 = λ n. n ∣ x * y in dvd_of_mul-dvd-mul_left {k = x} (t * g) {n = y} above (subst P moved times_g)
