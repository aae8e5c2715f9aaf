-- Ends in a row and the spans that they make, and the bits of parameter sets.
use Rattle.std.proofs.Common.{◌≡◌, ◌<◌, ◌≤◌, ◌+◌, ◌*◌, ◌/◌, ◌%◌, ◌^◌, ℕ, zero, suc, List, [], ◌∷◌, ℤ, pos, refl, ap, length, get_or, arith, IsBitSet, bit_and}
use Rattle.std.proofs.Math.Nat.{div-eq_of_lt, mod-eq_of_lt}
use Rattle.std.proofs.Math.Pow.{pow_mono}
use Rattle.std.proofs.lemmas.Nat.{bit_set_by_shift}
use Rattle.lift_grid.specs.Rectangle.{Spans, spans_of, sides_of, end_of, AreSpans, AreSides}

no_bit : (high : ℕ) → high ≡ 0 → bit_and high 1 ≡ 1 → ⊥
no_bit high none bit = let one : bit_and 0 1 ≡ 1 = rw none at bit in cc

below_from : (size set i : ℕ) → set < 2 ^ size → IsBitSet set i → (size ≤ i → ⊥) → i < size
below_from size set i small bit never = grind arith

-- a bit of a set has a place below the set's size
pub bit_below : (size set i : ℕ) → set < 2 ^ size → IsBitSet set i → i < size
bit_below size set i small bit =
    below_from size set i small bit (λ far. no_bit (set / 2 ^ i) (div-eq_of_lt (omega (arith, pow_mono far))) ((bit_set_by_shift set i).1 bit))

-- a bit of a set of 16 has a place below 16
pub below_16 : (set i : ℕ) → set < 2 ^ 16 → IsBitSet set i → i < 16
below_16 set i small bit = bit_below 16 set i small bit

-- a power below 2^16 fits
pub power_fits : (i : ℕ) → i < 16 → 1 * 2 ^ i % 65536 ≡ 2 ^ i
power_fits i h =
    let most : 2 ^ i ≤ 2 ^ 15 = pow_mono {j = 15} (omega arith) in
    let one : 1 * 2 ^ i ≡ 2 ^ i = omega arith in
    rw one (mod-eq_of_lt (omega arith))

-- the end of a span, in the row
pub end_in_row : (sides : List ℤ) (i bit : ℕ) → bit < 2 → 2 * i + 1 < length sides → get_or sides (2 * i + bit) (pos 0) ≡ end_of bit (get_or (spans_of sides) i (pos 0, pos 0))
end_in_row [] i bit b h = absurd (omega arith)
end_in_row (low ∷ []) i bit b h = absurd (omega arith)
end_in_row (low ∷ high ∷ sides) zero zero b h = refl
end_in_row (low ∷ high ∷ sides) zero (suc zero) b h = refl
end_in_row (low ∷ high ∷ sides) zero (suc (suc bit)) b h = absurd (omega arith)
end_in_row (low ∷ high ∷ sides) (suc i) bit b h =
    let place : 2 * suc i + bit ≡ suc (suc (2 * i + bit)) = omega arith in
    rw place (end_in_row sides i bit b (omega arith))

-- the spans of ends in a row
pub spans_of-sides_of : (ss : Spans) → spans_of (sides_of ss) ≡ ss
spans_of-sides_of [] = refl
spans_of-sides_of (s ∷ ss) = ap (λ rest. s ∷ rest) (spans_of-sides_of ss)

-- the ends of spans make a rectangle
pub sides-of_spans : (ss : Spans) → AreSpans ss → AreSides (sides_of ss)
sides-of_spans ss spans = record { paired = ap sides_of (spans_of-sides_of ss); spans = rw (spans_of-sides_of ss) spans }
