-- Ratios of whole numbers in lowest terms.
use Rattle.std.specs.Prelude.{◌≡◌, ◌<◌, ℤ, pos, ◌<ℤ◌, ◌*ℤ◌, ◌/◌, unsigned_abs, Bool, nat_le, ◌||◌, Result, Ok, Err, if◌then◌else◌}
use Rattle.std.specs.Int.{int_signum}
use Rattle.lift_frac.specs.Gcd.{gcd}
use Rattle.lift_frac.specs.Limits.{size_limit}
use Rattle.lift_frac.specs.declared.error.FracError.{FracError}
use Rattle.lift_frac.specs.declared.error.FracError.TheVariants.{Wide}

-- a whole number over another
pub record Ratio : Type 0 where
  pub num : ℤ
  pub den : ℤ

-- n / d in lowest terms: neither part keeps a factor that both have, and the sign stands above the line
abbrev pub lowest : ℤ → ℤ → Ratio
lowest n d = let divisor = gcd (unsigned_abs n) (unsigned_abs d) in
    record { num = int_signum n *ℤ int_signum d *ℤ pos (unsigned_abs n / divisor); den = pos (unsigned_abs d / divisor) }

-- a part is too large for a fraction: its size has reached the limit
abbrev pub is_wide : Ratio → Bool
is_wide q = nat_le size_limit (unsigned_abs q.num) || nat_le size_limit (unsigned_abs q.den)

-- what every fraction is: it is in lowest terms with a denominator above 0, and neither part is too large
pub record IsFraction (q : Ratio) : Type 0 where
  pub positive : pos 0 <ℤ q.den
  pub num : unsigned_abs q.num < size_limit
  pub den : unsigned_abs q.den < size_limit
  pub lowest : gcd (unsigned_abs q.num) (unsigned_abs q.den) ≡ 1

-- n / d in lowest terms, or Wide where a part of that is too large
abbrev pub fraction : ℤ → ℤ → Result Ratio FracError
fraction n d = if is_wide (lowest n d) then Err Wide else Ok (lowest n d)
