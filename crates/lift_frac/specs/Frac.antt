-- What a fraction is worth, and what a call that makes one answers.
use Rattle.std.specs.Prelude.{◌≡◌, ℤ, ◌*ℤ◌, Result, Ok, Err}
use Rattle.lift_frac.specs.Ratio.{Ratio}
use Rattle.lift_frac.specs.declared.frac.Frac.{Frac}
use Rattle.lift_frac.specs.declared.error.FracError.{FracError}

-- the two parts of a fraction
abbrev pub ratio_of : Frac → Ratio
ratio_of q = record { num = q.num; den = q.den }

-- an answer, with the fraction as its two parts
abbrev pub answer_of : Result Frac FracError → Result Ratio FracError
answer_of (Ok q) = Ok (ratio_of q)
answer_of (Err cause) = Err cause

-- q is n / d, as an equation between whole numbers
abbrev pub IsQuotient : ℤ → ℤ → Frac → Type 0
IsQuotient n d q = q.num *ℤ d ≡ n *ℤ q.den
