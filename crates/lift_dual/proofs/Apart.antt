-- The two sides of a bound.
use Rattle.std.proofs.Common.{◌^◌, ℕ, ℤ, pos, ◌*ℤ◌, ◌≤ℤ◌, ◌<ℤ◌, arith, ◌⊎◌, inl, inr}
use Rattle.std.proofs.lemmas.Int.{by_lt_z}
use Rattle.lift_poly.proofs.Ring.{linear, mul-comm, mul-le}
use Rattle.property_text.specs.declared.op.Op.TheVariants.{AtMost, Below, AtLeast, Above}
use Rattle.lift_dual.specs.Laws.{SidesAreApart, EachHasASide}

-- what is less times a number from 0 on is less
less : (a b : ℤ) (n : ℕ) → (a *ℤ pos n) <ℤ (b *ℤ pos n) → a <ℤ b
less a b n lt = by_lt_z a b (λ l. l) (λ le. let f = mul-le (pos n) b a (omega (arith, linear)) le in absurd (omega (arith, linear, f, lt, mul-comm (pos n) a, mul-comm (pos n) b)))

pub sides_are_apart : SidesAreApart
sides_are_apart AtMost bound w a b low high = less a b bound.den (omega (arith, linear, low, high))
sides_are_apart Below bound w a b low high = less a b bound.den (omega (arith, linear, low, high))
sides_are_apart AtLeast bound w a b low high = less a b bound.den (omega (arith, linear, low, high))
sides_are_apart Above bound w a b low high = less a b bound.den (omega (arith, linear, low, high))

either : (a b : ℤ) → (a ≤ℤ b) ⊎ (b <ℤ a)
either a b = by_lt_z b a (λ l. inr l) (λ le. inl le)

or_else : (a b : ℤ) → (a <ℤ b) ⊎ (b ≤ℤ a)
or_else a b = by_lt_z a b (λ l. inl l) (λ le. inr le)

pub each_has_a_side : EachHasASide
each_has_a_side AtMost bound w z = either (z *ℤ pos bound.den) (pos bound.num *ℤ pos (2 ^ w))
each_has_a_side Below bound w z = or_else (z *ℤ pos bound.den) (pos bound.num *ℤ pos (2 ^ w))
each_has_a_side AtLeast bound w z = or_else (z *ℤ pos bound.den) (pos bound.num *ℤ pos (2 ^ w))
each_has_a_side Above bound w z = either (z *ℤ pos bound.den) (pos bound.num *ℤ pos (2 ^ w))
