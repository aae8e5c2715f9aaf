-- Pieces of a line, by this project's profile of the DRN format.
use Prim.Native.Char.{code}
use Rattle.std.specs.Prelude.{ℕ, Bool, List, ◌==◌, ◌&&◌, not, nat_lt, length, drop, count_ones, Option, Some, None, Result, Ok, Err, if◌then◌else◌}
use Rattle.std.specs.List.{list_all}
use Rattle.std.specs.Char.{is_ascii_digit}
use Rattle.lift_poly.specs.Arithmetic.{support}
use Rattle.lift_bytes.specs.Bytes.{is_blank, first_passes, behind}
use Rattle.drn_expr.specs.Values.{reading}
use Rattle.drn_expr.specs.RatPolys.{OverOne}
use Rattle.drn_read.specs.Faults.{valued}
use Rattle.drn_read.specs.declared.error.DrnCause.{DrnCause}
use Rattle.drn_read.specs.declared.error.DrnCause.TheVariants.{Syntax, LimitValueParameters}

-- a number and a target have at most twenty digits
abbrev pub most_digits : ℕ
most_digits = 20

-- a value holds at most four parameters
abbrev pub most_value_parameters : ℕ
most_value_parameters = 4

-- one or more digits
abbrev pub is_digits : List ℕ → Bool
is_digits word = list_all is_ascii_digit word && not (length word == 0)

-- what stands behind a colon, around which blanks are free; none without a colon
abbrev pub behind_colon : List ℕ → Option (List ℕ)
behind_colon text = if first_passes (λ b. b == code ":") (behind is_blank text) then Some (drop 1 (behind is_blank text)) else None

-- a value that holds no more parameters than it may
abbrev pub with_few_parameters : OverOne → Result OverOne DrnCause
with_few_parameters p = if nat_lt most_value_parameters (count_ones (support p.terms)) then Err LimitValueParameters else Ok p

-- the value of a text over these names, or what is wrong with it
abbrev pub value_of : List (List ℕ) → List ℕ → Result OverOne DrnCause
value_of names text = elim (reading names text) [ Ok p ↦ with_few_parameters p | Err fault ↦ Err (valued fault) ]

-- the value behind a colon
abbrev pub value_behind : List (List ℕ) → List ℕ → Result OverOne DrnCause
value_behind names text = elim (behind_colon text) [ Some value ↦ value_of names value | None ↦ Err Syntax ]
