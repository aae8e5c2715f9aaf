-- Parameter sets as numbers.
use Rattle.std.proofs.Common.{◌≡◌, ℕ, ◌+◌, ◌<◌, ◌≤◌, List, length, get_or, drop, bit_or, sym, ap, ◌∙◌, arith, add-one, drop-cons}
use Rattle.std.proofs.lemmas.List.{drop_all}
use Rattle.std.proofs.lemmas.Nat.Bits.{same_from_bits, bit_at_or, bit_at-zero}
use Rattle.lift_poly.specs.Polynomial.{Term}
use Rattle.lift_poly.specs.Arithmetic.{support}

pub or_assoc : (a b c : ℕ) → bit_or (bit_or a b) c ≡ bit_or a (bit_or b c)
or_assoc a b c =
    same_from_bits (bit_or (bit_or a b) c) (bit_or a (bit_or b c))
    (λ i. omega (arith, bit_at_or (bit_or a b) c i, bit_at_or a b i, bit_at_or a (bit_or b c) i, bit_at_or b c i))

pub or-zero : (a : ℕ) → bit_or a 0 ≡ a
or-zero a = same_from_bits (bit_or a 0) a (λ i. omega (arith, bit_at_or a 0 i, bit_at-zero i))

pub zero-or : (a : ℕ) → bit_or 0 a ≡ a
zero-or a = same_from_bits (bit_or 0 a) a (λ i. omega (arith, bit_at_or 0 a i, bit_at-zero i))

-- a loop's step: one term more
pub support_more : (set i : ℕ) (ts : List Term) (d : Term) → i < length ts → bit_or (bit_or set (get_or ts i d).0) (support (drop (i + 1) ts)) ≡ bit_or set (support (drop i ts))
support_more set i ts d lt =
    or_assoc set (get_or ts i d).0 (support (drop (i + 1) ts))
    ∙ ap (λ us. bit_or set us) (ap (λ k. bit_or (get_or ts i d).0 (support (drop k ts))) (add-one i) ∙ sym (ap support (drop-cons ts i d lt)))

pub support_all : (set i : ℕ) (ts : List Term) → length ts ≤ i → bit_or set (support (drop i ts)) ≡ support ts → set ≡ support ts
support_all set i ts le h = sym (ap (λ us. bit_or set (support us)) (drop_all i ts le) ∙ or-zero set) ∙ h
