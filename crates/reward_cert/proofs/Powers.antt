-- Powers of two, as integers.
use Rattle.std.proofs.Common.{◌≡◌, ℕ, zero, suc, ◌+◌, ◌-◌, ◌*◌, ◌^◌, ℤ, pos, ◌-ℤ◌, ◌*ℤ◌, refl, sym, ap, ◌∙◌, arith, pow-suc, pow-add, mul-suc, mul_comm, mul-zero as mul-zero_nat}
use Rattle.std.proofs.lemmas.Nat.{pow_pos}
use Rattle.std.proofs.Math.Nat.{pow-zero}
use Rattle.lift_poly.proofs.Ring.{linear}
use Rattle.lift_model.specs.Process.{power}

power-pos_is : (b n : ℕ) → power (pos b) n ≡ pos (b ^ n)
power-pos_is b zero = ap pos (sym (pow-zero b))
power-pos_is b (suc n) = ap (λ z. pos b *ℤ z) (power-pos_is b n) ∙ ap pos (mul_comm b (b ^ n) ∙ sym (pow-suc b n))

pow-times : (a n : ℕ) → 2 ^ (a * n) ≡ (2 ^ a) ^ n
pow-times a zero = rw (mul-zero_nat, pow-zero (2 ^ a)) refl
pow-times a (suc n) = rw mul-suc (pow-add 2 (a * n) a ∙ ap (λ z. z * 2 ^ a) (pow-times a n) ∙ sym (pow-suc (2 ^ a) n))

-- what k steps leave at most at rate 2 ^ -e, of 2 ^ w parts
parts_are : (w e k : ℕ) → power (pos (2 ^ e)) k *ℤ pos (2 ^ w) ≡ pos (2 ^ (w + e * k))
parts_are w e k =
    ap (λ z. z *ℤ pos (2 ^ w)) (power-pos_is (2 ^ e) k ∙ ap pos (sym (pow-times e k)))
    ∙ ap pos (mul_comm (2 ^ (e * k)) (2 ^ w) ∙ sym (pow-add 2 w (e * k)))

pub all_parts : (w e k j : ℕ) → power (power (pos (2 ^ e)) k *ℤ pos (2 ^ w)) j ≡ pos (2 ^ ((w + e * k) * j))
all_parts w e k j = ap (λ b. power b j) (parts_are w e k) ∙ power-pos_is (2 ^ (w + e * k)) j ∙ ap pos (sym (pow-times (w + e * k) j))

pub all_left : (w e k j : ℕ) → power (power (pos (2 ^ e)) k *ℤ pos (2 ^ w) -ℤ pos 1) j ≡ pos ((2 ^ (w + e * k) - 1) ^ j)
all_left w e k j =
    let one : power (pos (2 ^ e)) k *ℤ pos (2 ^ w) -ℤ pos 1 ≡ pos (2 ^ (w + e * k) - 1) = ap (λ b. b -ℤ pos 1) (parts_are w e k) ∙ omega (arith, linear, pow_pos (w + e * k)) in
    ap (λ b. power b j) one ∙ power-pos_is (2 ^ (w + e * k) - 1) j

-- as powers of one number
pub flat : (m j : ℕ) → pos (2 ^ (m * j)) ≡ power (pos (2 ^ m)) j
flat m j = ap pos (pow-times m j) ∙ sym (power-pos_is (2 ^ m) j)

pub flat_less : (m j : ℕ) → pos ((2 ^ m - 1) ^ j) ≡ power (pos (2 ^ m) -ℤ pos 1) j
flat_less m j =
    let one : pos (2 ^ m - 1) ≡ pos (2 ^ m) -ℤ pos 1 = omega (arith, linear, pow_pos m) in
    sym (power-pos_is (2 ^ m - 1) j) ∙ ap (λ b. power b j) one
