-- A ratio in lowest terms: the same ratio, with no factor in both parts.
use Rattle.std.proofs.Common.{◌≡◌, ◌≢◌, ◌*◌, ◌/◌, ◌<◌, min, ℕ, zero, suc, ℤ, pos, negsuc, ◌*ℤ◌, neg_ℤ, sym, subst, ap, ◌∙◌, refl, arith}
use Rattle.std.specs.Prelude.{unsigned_abs}
use Rattle.std.specs.Int.{IsGcd, ◌∣◌, int_signum}
use Rattle.std.proofs.Math.Nat.{one-dvd, one-mul, zero-mul, mul-dvd-mul_right, dvd_of_mul-dvd-mul_right, div-mul_cancel, zero-div}
use Rattle.std.proofs.lemmas.Int.{ints, unsigned_abs-mul}
use borrow.Author.Differences.{up, down, product_is, neg_is}
use Rattle.lift_frac.specs.Gcd.{gcd}
use Rattle.lift_frac.proofs.Euclid.{is_gcd}

-- what is left after the greatest common divisor has no common factor
IsGcd-quotients : (a b g : ℕ) → 0 < g → IsGcd a b g → IsGcd (a / g) (b / g) 1
IsGcd-quotients a b g above i =
    let along = λ (d n m : ℕ) (e : n ≡ m) (h : (d * g) ∣ n). let P : ℕ → Type 0 = λ k. (d * g) ∣ k in subst P e h in (
      one-dvd (a / g),
      one-dvd (b / g),
      λ d p q.
          let in_a = along d (a / g * g) a (div-mul_cancel g i.0) (mul-dvd-mul_right d p g) in
          let in_b = along d (b / g * g) b (div-mul_cancel g i.1) (mul-dvd-mul_right d q g) in
          dvd_of_mul-dvd-mul_right {k = g} d {n = 1} above (along d g (1 * g) (sym (one-mul g)) (i.2 (d * g) in_a in_b)),
    )

pub gcd-quotients : (a b g : ℕ) → 0 < g → IsGcd a b g → gcd (a / g) (b / g) ≡ 1
gcd-quotients a b g above i = sym (is_gcd (a / g) (b / g) 1 (IsGcd-quotients a b g above i))

-- the sign of a number above 0, as its definition leaves it
one_at_most : (a : ℕ) → min (suc a) 1 ≡ 1
one_at_most a = omega arith

-- a sign without its number changes no size
sign_size : (n : ℤ) (g : ℕ) → unsigned_abs (int_signum n) * (unsigned_abs n / g) ≡ unsigned_abs n / g
sign_size (pos zero) g = rw (zero-div g) refl
sign_size (pos (suc a)) g = rw (one_at_most a) (one-mul (suc a / g))
sign_size (negsuc a) g = one-mul (suc a / g)

sign_of_divisor : (d : ℤ) → d ≢ pos 0 → unsigned_abs (int_signum d) ≡ 1
sign_of_divisor (pos zero) h = absurd (h refl)
sign_of_divisor (pos (suc b)) h = one_at_most b
sign_of_divisor (negsuc b) h = refl

-- the size of the part above the line
pub size_above : (n d : ℤ) (g : ℕ) → d ≢ pos 0 → unsigned_abs (int_signum n *ℤ int_signum d *ℤ pos (unsigned_abs n / g)) ≡ unsigned_abs n / g
size_above n d g h =
    let outer = unsigned_abs-mul (int_signum n *ℤ int_signum d) (pos (unsigned_abs n / g)) in
    let inner = unsigned_abs-mul (int_signum n) (int_signum d) in
    let one = sign_of_divisor d h in
    let size = sign_size n g in
    grind arith

-- the parts in lowest terms stand to each other as the numbers do
cross : (a b g : ℕ) → g ∣ a → g ∣ b → (a / g) * b ≡ a * (b / g)
cross a b g p q =
    let x = div-mul_cancel g p in
    let y = div-mul_cancel g q in
    let l = ap (λ k. (a / g) * k) y in
    let r = ap (λ k. k * (b / g)) x in
    omega (arith, l, r)

-- -x times k, as `omega` reads it
minus_size : (x k : ℕ) → (up (neg_ℤ (pos (1 * x))) * k ≡ 0) × (down (neg_ℤ (pos (1 * x))) * k ≡ x * k)
minus_size x k =
    let minus = neg_is (pos (1 * x)) in
    (ap (λ t. t * k) minus.0 ∙ zero-mul k, ap (λ t. t * k) minus.1 ∙ ap (λ t. t * k) (one-mul x))

signs : (n d : ℤ) (x y : ℕ) → x * unsigned_abs d ≡ unsigned_abs n * y → unsigned_abs (int_signum n) * x ≡ x → d ≢ pos 0
    → (int_signum n *ℤ int_signum d *ℤ pos x) *ℤ d ≡ n *ℤ pos y
signs n (pos zero) x y e s h = absurd (h refl)
signs (pos zero) (pos (suc b)) x y e s h = omega (arith, ints, product_is, neg_is)
signs (pos zero) (negsuc b) x y e s h = omega (arith, ints, product_is, neg_is)
signs (pos (suc a)) (pos (suc b)) x y e s h = rw (one_at_most a, one_at_most b) (omega (arith, ints, product_is, neg_is))
signs (pos (suc a)) (negsuc b) x y e s h = rw (one_at_most a) (omega (arith, ints, product_is, minus_size x (suc b)))
signs (negsuc a) (pos (suc b)) x y e s h = rw (one_at_most b) (omega (arith, ints, product_is, minus_size x (suc b)))
signs (negsuc a) (negsuc b) x y e s h = omega (arith, ints, product_is, neg_is)

-- a ratio in lowest terms is the same ratio
pub same_ratio : (n d : ℤ) (g : ℕ) → d ≢ pos 0 → IsGcd (unsigned_abs n) (unsigned_abs d) g
    → (int_signum n *ℤ int_signum d *ℤ pos (unsigned_abs n / g)) *ℤ d ≡ n *ℤ pos (unsigned_abs d / g)
same_ratio n d g h i = signs n d _ _ (cross (unsigned_abs n) (unsigned_abs d) g i.0 i.1) (sign_size n g) h
