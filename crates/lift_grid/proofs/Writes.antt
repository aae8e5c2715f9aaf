-- What a write to an end makes of the spans.
use Rattle.std.proofs.Common.{◌≡◌, ◌<◌, ◌+◌, ◌*◌, ℕ, zero, suc, List, [], ◌∷◌, ℤ, pos, refl, ap, sym, length, get_or, set, drop, arith, ◌<ℤ◌}
use Rattle.std.proofs.lemmas.Int.{ints}
use Rattle.lift_grid.specs.Rectangle.{spans_of, sides_of}
use Rattle.lift_grid.specs.Tree.{middle, lower_half, upper_half}
use Rattle.lift_grid.specs.Splitting.{IsHalvable}

two_more : (i : ℕ) → 2 * suc i ≡ suc (suc (2 * i))
two_more i = omega arith

-- the high end moved to the midpoint
pub lower-set : (sides : List ℤ) (i : ℕ) (v : ℤ) → 2 * i + 1 < length sides → v ≡ middle (get_or sides (2 * i) (pos 0), get_or sides (2 * i + 1) (pos 0)) → spans_of (set sides (2 * i + 1) v) ≡ lower_half i (spans_of sides)
lower-set [] i v h e = absurd (omega arith)
lower-set (low ∷ []) i v h e = absurd (omega arith)
lower-set (low ∷ high ∷ sides) zero v h e = ap (λ n. (low, n) ∷ spans_of sides) e
lower-set (low ∷ high ∷ sides) (suc i) v h e =
    let place : 2 * suc i + 1 ≡ suc (suc (2 * i + 1)) = omega arith in
    let at_rest = rw (place, two_more i) at e in
    rw place (ap (λ ss. (low, high) ∷ ss) (lower-set sides i v (omega arith) at_rest))

-- the low end moved to the midpoint
pub upper-set : (sides : List ℤ) (i : ℕ) (v : ℤ) → 2 * i + 1 < length sides → v ≡ middle (get_or sides (2 * i) (pos 0), get_or sides (2 * i + 1) (pos 0)) → spans_of (set sides (2 * i) v) ≡ upper_half i (spans_of sides)
upper-set [] i v h e = absurd (omega arith)
upper-set (low ∷ []) i v h e = absurd (omega arith)
upper-set (low ∷ high ∷ sides) zero v h e = ap (λ n. (n, high) ∷ spans_of sides) e
upper-set (low ∷ high ∷ sides) (suc i) v h e =
    let place : 2 * suc i + 1 ≡ suc (suc (2 * i + 1)) = omega arith in
    let at_rest = rw (place, two_more i) at e in
    rw (two_more i) (ap (λ ss. (low, high) ∷ ss) (upper-set sides i v (omega arith) at_rest))

-- a write keeps the ends in pairs
pub paired-set : (sides : List ℤ) (i : ℕ) (v : ℤ) → sides_of (spans_of sides) ≡ sides → sides_of (spans_of (set sides i v)) ≡ set sides i v
paired-set [] i v h = h
paired-set (low ∷ []) i v h = absurd (let short : length (low ∷ []) ≡ 0 = sym (ap length h) in omega arith)
paired-set (low ∷ high ∷ sides) zero v h = ap (λ l. v ∷ high ∷ l) (ap (λ l. drop 2 l) h)
paired-set (low ∷ high ∷ sides) (suc zero) v h = ap (λ l. low ∷ v ∷ l) (ap (λ l. drop 2 l) h)
paired-set (low ∷ high ∷ sides) (suc (suc i)) v h = ap (λ l. low ∷ high ∷ l) (paired-set sides i v (ap (λ l. drop 2 l) h))

-- a span that there is has both its ends in the row
pub pair_in_row : (sides : List ℤ) (i : ℕ) → i < length (spans_of sides) → 2 * i + 1 < length sides
pair_in_row [] i h = absurd (omega arith)
pair_in_row (low ∷ []) i h = absurd (omega arith)
pair_in_row (low ∷ high ∷ sides) zero h = omega arith
pair_in_row (low ∷ high ∷ sides) (suc i) h = omega (arith, pair_in_row sides i (omega arith))

-- the span is the pair of these ends
pub ends_in_row : (sides : List ℤ) (i : ℕ) → i < length (spans_of sides) → get_or (spans_of sides) i (pos 0, pos 0) ≡ (get_or sides (2 * i) (pos 0), get_or sides (2 * i + 1) (pos 0))
ends_in_row [] i h = absurd (omega arith)
ends_in_row (low ∷ []) i h = absurd (omega arith)
ends_in_row (low ∷ high ∷ sides) zero h = refl
ends_in_row (low ∷ high ∷ sides) (suc i) h =
    let place : 2 * suc i + 1 ≡ suc (suc (2 * i + 1)) = omega arith in
    rw (place, two_more i) (ends_in_row sides i (omega arith))

-- the low end of a span that can be halved is below the high one
pub ends_rise : (sides : List ℤ) (i : ℕ) → IsHalvable i (spans_of sides) → get_or sides (2 * i) (pos 0) <ℤ get_or sides (2 * i + 1) (pos 0)
ends_rise sides i can =
    let apart = rw (ends_in_row sides i can.some) at can.apart in
    omega (arith, ints, apart)
