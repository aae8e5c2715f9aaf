-- What common divisors and multiples are, and what literals stand for.
use Rattle.std.specs.Prelude.{◌≡◌, ◌≢◌, ◌<◌, ◌≤◌, ℕ, List, ℤ, pos, Ok}
use Rattle.std.specs.Int.{IsGcd, ◌∣◌}
use Rattle.lift_frac.specs.Gcd.{gcd, lcm}
use Rattle.lift_frac.specs.Literal.{Literal, value_of, reading}
use Rattle.lift_frac.specs.Ratio.{Ratio, IsFraction, fraction}

-- the greatest common divisor divides both numbers, and what divides both divides it
abbrev pub GcdIsGreatest : Type 0
GcdIsGreatest = (a b : ℕ) → IsGcd a b (gcd a b)

-- no other number is one
abbrev pub GcdIsUnique : Type 0
GcdIsUnique = (a b divisor : ℕ) → IsGcd a b divisor → divisor ≡ gcd a b

-- it is from 1 to the second number, unless that is 0
abbrev pub GcdIsWithin : Type 0
GcdIsWithin = (a b : ℕ) → 0 < b → (0 < gcd a b) × (gcd a b ≤ b)

-- the least common multiple is a multiple of both numbers
abbrev pub LcmIsMultiple : Type 0
LcmIsMultiple = (a b : ℕ) → (a ∣ lcm a b) × (b ∣ lcm a b)

-- and it divides each common multiple
abbrev pub LcmIsLeast : Type 0
LcmIsLeast = (a b multiple : ℕ) → a ∣ multiple → b ∣ multiple → lcm a b ∣ multiple

-- it isn't less than the first number, unless the second is 0
abbrev pub LcmIsAtLeast : Type 0
LcmIsAtLeast = (a b : ℕ) → 0 < b → a ≤ lcm a b

-- ---- literals

-- a text that reads as a literal is worth a fraction
abbrev pub ReadingIsFraction : Type 0
ReadingIsFraction = (text : List ℕ) (q : Ratio) → reading text ≡ Ok q → IsFraction q

-- ---- fractions

-- one number over another, in lowest terms, is a fraction, where the divisor isn't 0
abbrev pub LowestIsFraction : Type 0
LowestIsFraction = (n d : ℤ) (q : Ratio) → d ≢ pos 0 → fraction n d ≡ Ok q → IsFraction q

-- what a literal is worth is a fraction
abbrev pub ValueIsFraction : Type 0
ValueIsFraction = (literal : Literal) (q : Ratio) → value_of literal ≡ Ok q → IsFraction q
