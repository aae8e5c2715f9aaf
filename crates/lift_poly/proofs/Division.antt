-- Divisors of coefficients.
use Rattle.std.proofs.Common.{◌≡◌, ◌≢◌, ℕ, zero, suc, ◌+◌, ◌/◌, ◌<◌, ◌≤◌, List, [], ◌∷◌, ◌++◌, length, get_or, take, ℤ, pos, negsuc, ◌*ℤ◌, ◌<ℤ◌, neg_ℤ, unsigned_abs, int_div, refl, sym, ap, ap₂, ◌∙◌, subst, arith}
use Rattle.std.specs.Int.{◌∣◌, IsGcd}
use Rattle.std.specs.Int.RustNames.{int_rem}
use Rattle.std.proofs.lemmas.Int.{quot-rem}
use Rattle.std.proofs.Math.Nat.{div-le_self}
use Rattle.std.proofs.lemmas.Nat.Gcd.{dvd_trans, dvd-zero, mod-eq-zero_of_dvd, dvd_of_mod-eq-zero}
use Rattle.std.proofs.lemmas.List.{take_more}
use Rattle.std.proofs.lemmas.List.Elements.{All-nil, All-cons, All-head, All-tail, All-map, All-push, All-take, All-weaker}
use Rattle.lift_poly.specs.Limits.{term_limit}
use Rattle.lift_poly.specs.Polynomial.{Term}
use Rattle.lift_poly.specs.Arithmetic.{times, quotient, DividesEach, IsContent}
use Rattle.lift_poly.specs.MultiAffine.{IsMultiAffine}
use Rattle.lift_poly.proofs.Canonical.{Canonical, canonical_from_polynomial}
use Rattle.lift_poly.proofs.Merging.{Small, multi_affine_from}
use Rattle.lift_poly.proofs.Ring.{linear, mul-comm, mul-zero, one-mul}

one_divides : (n : ℕ) → 1 ∣ n
one_divides n = dvd_of_mod-eq-zero 1 (omega arith)

no_remainder : (a by : ℤ) → unsigned_abs by ∣ unsigned_abs a → int_rem a by ≡ pos 0
no_remainder (pos n) by h = ap pos (mod-eq-zero_of_dvd (unsigned_abs by) h)
no_remainder (negsuc n) by h = ap (λ k. neg_ℤ (pos k)) (mod-eq-zero_of_dvd (unsigned_abs by) h)

-- a quotient by a divisor is exact
exact : (a by : ℤ) → unsigned_abs by ∣ unsigned_abs a → by *ℤ int_div a by ≡ a
exact a by h = mul-comm by (int_div a by) ∙ omega (arith, linear, quot-rem a by, no_remainder a by h)

pub times-quotient : (by : ℤ) (ts : List Term) → DividesEach (unsigned_abs by) ts → times by (quotient ts by) ≡ ts
times-quotient by [] h = refl
times-quotient by (t ∷ ts) h =
    ap₂ (λ z us. (t.0, z) ∷ us) (exact t.1 by (All-head (λ u. unsigned_abs by ∣ unsigned_abs u.1) t ts h)) (times-quotient by ts (All-tail (λ u. unsigned_abs by ∣ unsigned_abs u.1) t ts h))

quotient_some : (a by : ℤ) → unsigned_abs by ∣ unsigned_abs a → a ≢ pos 0 → int_div a by ≢ pos 0
quotient_some a by h ne e = ne (sym (exact a by h) ∙ ap (λ z. by *ℤ z) e ∙ mul-zero by)

pub canonical-quotient : (low : ℕ) (by : ℤ) (ts : List Term) → DividesEach (unsigned_abs by) ts → Canonical low ts → Canonical low (quotient ts by)
canonical-quotient low by [] h k = tt
canonical-quotient low by (t ∷ ts) h k = (
  k.0,
  quotient_some t.1 by (All-head (λ u. unsigned_abs by ∣ unsigned_abs u.1) t ts h) k.1,
  canonical-quotient (suc t.0) by ts (All-tail (λ u. unsigned_abs by ∣ unsigned_abs u.1) t ts h) k.2,
)

abs_negative : (k : ℕ) → unsigned_abs (neg_ℤ (pos k)) ≡ k
abs_negative zero = refl
abs_negative (suc k) = refl

-- a quotient's size is at most that of what is divided
quotient_size : (a by : ℤ) → pos 0 <ℤ by → unsigned_abs by ∣ unsigned_abs a → unsigned_abs (int_div a by) ≤ unsigned_abs a
quotient_size (pos n) (pos d) positive h = div-le_self n d
quotient_size (negsuc n) (pos d) positive h = omega (arith, abs_negative (suc n / d), div-le_self (suc n) d)
quotient_size (pos n) (negsuc d) positive h = absurd (omega (arith, linear))
quotient_size (negsuc n) (negsuc d) positive h = absurd (omega (arith, linear))

pub quotient_fits : (by : ℤ) (ts : List Term) → pos 0 <ℤ by → DividesEach (unsigned_abs by) ts → IsMultiAffine ts → IsMultiAffine (quotient ts by)
quotient_fits by ts positive h m =
    multi_affine_from (quotient ts by) (canonical-quotient 0 by ts h (canonical_from_polynomial ts m.polynomial))
    (All-map Small (λ (t : Term). (t.0, int_div t.1 by)) ts (λ k d lt. (m.sets k d lt, small (get_or ts k d).1 (h k d lt) (m.sizes k d lt))))
  where
    small : (a : ℤ) → unsigned_abs by ∣ unsigned_abs a → unsigned_abs a < term_limit → unsigned_abs (int_div a by) < term_limit
    small a d lt = omega (arith, quotient_size a by positive d)

-- ---- the greatest common divisor, one term at a time

pub content_none : IsContent [] 0
content_none = record { divides = All-nil (λ u. 0 ∣ unsigned_abs u.1); greatest = λ other h. dvd-zero other }

divides_front : (number : ℕ) (ts us : List Term) → DividesEach number (ts ++ us) → DividesEach number ts
divides_front number [] us h = All-nil (λ u. number ∣ unsigned_abs u.1)
divides_front number (t ∷ ts) us h = All-cons (λ u. number ∣ unsigned_abs u.1) t ts (All-head (λ u. number ∣ unsigned_abs u.1) t (ts ++ us) h) (divides_front number ts us (All-tail (λ u. number ∣ unsigned_abs u.1) t (ts ++ us) h))

divides_last : (number : ℕ) (ts : List Term) (t : Term) → DividesEach number (ts ++ t ∷ []) → number ∣ unsigned_abs t.1
divides_last number [] t h = All-head (λ u. number ∣ unsigned_abs u.1) t [] h
divides_last number (u ∷ ts) t h = divides_last number ts t (All-tail (λ w. number ∣ unsigned_abs w.1) u (ts ++ t ∷ []) h)

content_push : (ts : List Term) (t : Term) (g h : ℕ) → IsContent ts g → IsGcd g (unsigned_abs t.1) h → IsContent (ts ++ t ∷ []) h
content_push ts t g h c k = record {
  divides = All-push (λ u. h ∣ unsigned_abs u.1) ts t (All-weaker (λ u. g ∣ unsigned_abs u.1) (λ u. h ∣ unsigned_abs u.1) (λ u d. dvd_trans h k.0 d) ts c.divides) k.1;
  greatest = λ other d. k.2 other (c.greatest other (divides_front other ts (t ∷ []) d)) (divides_last other ts t d);
}

pub content_more : (ts : List Term) (i : ℕ) (d : Term) (g h : ℕ) → i < length ts → IsContent (take i ts) g → IsGcd g (unsigned_abs (get_or ts i d).1) h → IsContent (take (i + 1) ts) h
content_more ts i d g h lt c k = subst (λ us. IsContent us h) (sym (take_more ts i d lt)) (content_push (take i ts) (get_or ts i d) g h c k)

-- coefficients some of which have nothing in common
pub content_one : (ts : List Term) (i : ℕ) → IsContent (take i ts) 1 → IsContent ts 1
content_one ts i c = record {
  divides = λ k d lt. one_divides (unsigned_abs (get_or ts k d).1);
  greatest = λ other d. c.greatest other (All-take (λ u. other ∣ unsigned_abs u.1) i ts d);
}

-- ---- the divisor 1

pub times-one : (ts : List Term) → times (pos 1) ts ≡ ts
times-one [] = refl
times-one (t ∷ ts) = ap₂ (λ z us. (t.0, z) ∷ us) (one-mul t.1) (times-one ts)

pub quotient-one : (ts : List Term) → quotient ts (pos 1) ≡ ts
quotient-one ts = sym (times-one (quotient ts (pos 1))) ∙ times-quotient (pos 1) ts (λ k d lt. one_divides (unsigned_abs (get_or ts k d).1))
