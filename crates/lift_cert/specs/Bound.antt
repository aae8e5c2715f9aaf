-- Bounds on a probability.
use Rattle.std.specs.Prelude.{◌≡◌, ◌≤◌, ◌^◌, ℕ}
use Rattle.lift_frac.specs.Gcd.{gcd}

-- a bound, as its two parts
pub record BoundData : Type 0 where
  pub num : ℕ
  pub den : ℕ

-- each part of a bound is below this, by our own profile
abbrev pub part_limit : ℕ
part_limit = 2 ^ 32

-- what every bound is: a fraction in lowest terms, from 0 to 1
pub record IsBound (bound : BoundData) : Type 0 where
  pub lowest : gcd bound.num bound.den ≡ 1
  pub most : bound.num ≤ bound.den
  pub positive : 1 ≤ bound.den
