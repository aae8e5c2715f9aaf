-- Sets of parameters as numbers: a set within another has no more members.
use Rattle.std.proofs.Common.{◌≡◌, ℕ, zero, suc, ◌/◌, ◌%◌, ◌^◌, ◌<◌, ◌≤◌, bit_or, count_ones, ap, arith, pow-suc}
use Rattle.std.specs.Int.{bit_at}
use lib.Count.{ones_step}
use Rattle.std.proofs.lemmas.Nat.Bits.{bit_at_lowest, bit_at-suc, bit_at-zero, bit_at_or}

-- each member of the first is one of the second
pub record IsWithin (a b : ℕ) : Type 0 where
  pub each : (i : ℕ) → bit_at a i ≤ bit_at b i

halves_within : (a b : ℕ) → IsWithin a b → IsWithin (a / 2) (b / 2)
halves_within a b h = record { each = λ i. omega (arith, bit_at-suc a i, bit_at-suc b i, h.each (suc i)) }

half_below : (k a : ℕ) → a < 2 ^ suc k → a / 2 < 2 ^ k
half_below k a h = omega (arith, h, pow-suc 2 k)

-- it has no more members
pub ones_within : (k a b : ℕ) → a < 2 ^ k → b < 2 ^ k → IsWithin a b → count_ones a ≤ count_ones b
ones_within zero a b la lb h = let e : a ≡ b = omega arith in omega (arith, ap count_ones e)
ones_within (suc k) a b la lb h =
    let low : a % 2 ≤ b % 2 = omega (arith, bit_at_lowest a, bit_at_lowest b, h.each 0) in
    omega (arith, ones_step a, ones_step b, low, ones_within k (a / 2) (b / 2) (half_below k a la) (half_below k b lb) (halves_within a b h))

pub first_within : (a b : ℕ) → IsWithin a (bit_or a b)
first_within a b = record { each = λ i. omega (arith, bit_at_or a b i) }

pub last_within : (a b : ℕ) → IsWithin b (bit_or a b)
last_within a b = record { each = λ i. omega (arith, bit_at_or a b i) }

-- what three sets make, whatever is put together first
pub regrouped : (a b c : ℕ) → IsWithin (bit_or (bit_or a b) c) (bit_or a (bit_or b c))
regrouped a b c = record { each = λ i. omega (arith, bit_at_or (bit_or a b) c i, bit_at_or a b i, bit_at_or a (bit_or b c) i, bit_at_or b c i) }

pub grouped : (a b c : ℕ) → IsWithin (bit_or a (bit_or b c)) (bit_or (bit_or a b) c)
grouped a b c = record { each = λ i. omega (arith, bit_at_or (bit_or a b) c i, bit_at_or a b i, bit_at_or a (bit_or b c) i, bit_at_or b c i) }

pub none_within : (a : ℕ) → IsWithin (bit_or a 0) a
none_within a = record { each = λ i. omega (arith, bit_at_or a 0 i, bit_at-zero i) }

pub zero_within : (a : ℕ) → IsWithin (bit_or 0 a) a
zero_within a = record { each = λ i. omega (arith, bit_at_or 0 a i, bit_at-zero i) }
