-- The refusals of rows: their numbers, and the row that each tells of.
use Rattle.std.specs.Prelude.{ℕ}
use Rattle.lift_rows.specs.declared.error.RowError.{RowError}
use Rattle.lift_rows.specs.declared.error.RowError.TheVariants.{RowSum, Negative, RowParameters, TooWide}

-- the number of a refusal
abbrev pub error_number : RowError → ℕ
error_number (RowSum s a set sum) = 1
error_number (Negative s a target corner weight) = 2
error_number (RowParameters s a count) = 3
error_number (TooWide s a) = 4

-- the state and the choice of the row that a refusal tells of
abbrev pub error_row : RowError → ℕ × ℕ
error_row (RowSum s a set sum) = (s, a)
error_row (Negative s a target corner weight) = (s, a)
error_row (RowParameters s a count) = (s, a)
error_row (TooWide s a) = (s, a)
