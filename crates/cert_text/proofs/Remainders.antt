-- Lowest terms by a remainder.
use Rattle.std.proofs.Common.{◌≡◌, ℕ, zero, suc, ◌%◌, ◌≤◌, ◌<◌, Bool, true, false, refl, sym, ap, ◌∙◌, arith}
use Rattle.std.specs.Prelude.{ℤ, pos, negsuc, ◌<ℤ◌, unsigned_abs, nat_lt, ◌==◌}
use Rattle.std.specs.Ordering.{int_eq}
use Rattle.std.specs.Bool.{one_answer}
use Rattle.std.proofs.lemmas.Bool.Decides.{Decides-eqb, Decides-int_eq}
use Rattle.std.proofs.Math.Nat.{mod-mod, mod_self, mod-eq_of_lt}
use Rattle.std.proofs.lemmas.Int.{ints}
use Rattle.std.proofs.lemmas.Bool.{ltb-true, ltb-false}
use Rattle.lift_frac.specs.Gcd.{gcd_steps, gcd}

-- more steps than the second number give the same
steps_same : (n m a b : ℕ) → b ≤ n → b ≤ m → gcd_steps n a b ≡ gcd_steps m a b
steps_same zero zero a b h k = refl
steps_same zero (suc m) a zero h k = refl
steps_same zero (suc m) a (suc b) h k = absurd (omega (arith, h))
steps_same (suc n) zero a zero h k = refl
steps_same (suc n) zero a (suc b) h k = absurd (omega (arith, k))
steps_same (suc n) (suc m) a zero h k = refl
steps_same (suc n) (suc m) a (suc b) h k =
    let low : a % suc b < suc b = omega arith in
    steps_same n m (suc b) (a % suc b) (omega (arith, low, h)) (omega (arith, low, k))

steps_none : (n a : ℕ) → gcd_steps n a 0 ≡ a
steps_none zero a = refl
steps_none (suc n) a = refl

-- the common divisor of two numbers is that of the one and of what it leaves of the other
pub gcd_remainder : (a b : ℕ) → 0 < a → gcd a b ≡ gcd (b % a) a
unfolding gcd
gcd_remainder zero b h = absurd (omega (arith, h))
gcd_remainder (suc a) b h = by_test (nat_lt b (suc a)) refl ∙ sym (ap (gcd_steps a (suc a)) again)
  where
    again : b % suc a % suc a ≡ b % suc a
    again = mod-mod b (suc a)

    by_more : (b : ℕ) (t : Bool) → nat_lt (suc a) b ≡ t → suc a ≤ b → gcd_steps b (suc a) b ≡ gcd_steps a (suc a) (b % suc a)
    by_more zero t e least = absurd (omega (arith, least))
    by_more (suc b) true e least =
        let less : suc a < suc b = ltb-true (suc a) (suc b) e in
        let same : suc a % suc b ≡ suc a = mod-eq_of_lt less in
        ap (gcd_steps b (suc b)) same ∙ steps_same b (suc a) (suc b) (suc a) (omega (arith, less)) (omega arith)
    by_more (suc b) false e least =
        let equal : b ≡ a = omega (arith, ltb-false (suc a) (suc b) e, least) in
        let first : suc a % suc b ≡ 0 = ap (λ k. suc a % suc k) equal ∙ mod_self (suc a) in
        let last : suc b % suc a ≡ 0 = ap (λ k. suc k % suc a) equal ∙ mod_self (suc a) in
        ap (gcd_steps b (suc b)) first ∙ steps_none b (suc b) ∙ ap suc equal ∙ sym (steps_none a (suc a)) ∙ sym (ap (gcd_steps a (suc a)) last)

    by_test : (t : Bool) → nat_lt b (suc a) ≡ t → gcd_steps b (suc a) b ≡ gcd_steps a (suc a) (b % suc a)
    by_test true e =
        let less : b < suc a = ltb-true b (suc a) e in
        let same : b % suc a ≡ b = mod-eq_of_lt less in
        steps_same b a (suc a) b (omega arith) (omega (arith, less)) ∙ sym (ap (gcd_steps a (suc a)) same)
    by_test false e = by_more b (nat_lt (suc a) b) refl (ltb-false b (suc a) e)

-- with 0 it is the other number
pub lowest_none : (n : ℕ) (z : ℤ) → n ≡ 0 → pos 0 <ℤ z → int_eq z (pos 1) ≡ (gcd n (unsigned_abs z) == 1)
unfolding gcd
lowest_none n (pos m) none some = as_natural m ∙ sym (ap (λ k. gcd_steps m k m == 1) none ∙ ap (λ k. k == 1) (alone m))
  where
    as_natural : (m : ℕ) → int_eq (pos m) (pos 1) ≡ (m == 1)
    as_natural m = one_answer (int_eq (pos m) (pos 1)) (m == 1) (Decides-int_eq (pos m) (pos 1)) ((λ t. ap pos ((Decides-eqb m 1).0 t)), (λ e. (Decides-eqb m 1).1 (pos_is m 1 e)))
      where
        pos_is : (a b : ℕ) → pos a ≡ pos b → a ≡ b
        pos_is a b e = cc

    alone : (m : ℕ) → gcd_steps m 0 m ≡ m
    alone zero = refl
    alone (suc m) = let left : 0 % suc m ≡ 0 = omega arith in ap (gcd_steps m (suc m)) left ∙ steps_none m (suc m)
lowest_none n (negsuc m) none some = absurd (omega (arith, ints, some))
