-- Fractions as they are written: a literal, or one literal over another.
use Prim.Native.Char.{code}
use Rattle.std.specs.Prelude.{◌==◌, ◌*ℤ◌, ℕ, unsigned_abs, List, Option, Some, None, Result, Ok, if◌then◌else◌}
use Rattle.std.specs.List.{list_any, before_first, after_first}
use Rattle.std.specs.Result.{result_ok}
use Rattle.lift_frac.specs.Literal.{reading}
use Rattle.lift_frac.specs.Ratio.{Ratio, fraction}
use Rattle.lift_frac.specs.declared.error.FracError.{FracError}

-- what stands before and behind the first byte c of a text, where it has one
abbrev pub cut_at : ℕ → List ℕ → Option (List ℕ × List ℕ)
cut_at c text = if list_any (λ b. b == c) text then Some (before_first (λ b. b == c) text, after_first (λ b. b == c) text) else None

-- One number over another, in lowest terms. None where one of them is no literal or too wide, where the divisor is 0, or where the result is too wide.
abbrev pub divided : Result Ratio FracError → Result Ratio FracError → Option Ratio
divided (Ok a) (Ok b) = if unsigned_abs b.num == 0 then None else result_ok (fraction (a.num *ℤ b.den) (a.den *ℤ b.num))
divided _ _ = None

-- a fraction, written `literal` or `literal/literal`
abbrev pub written_ratio : List ℕ → Option Ratio
written_ratio word = elim (cut_at (code "/") word) [ None ↦ result_ok (reading word) | Some parts ↦ divided (reading parts.0) (reading parts.1) ]
