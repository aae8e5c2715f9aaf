-- What is told of a row that isn't admitted.
use Rattle.std.specs.Prelude.{ℕ, List, ◌++◌, codes}
use Rattle.std.specs.Fmt.{decimal, signed_decimal}
use Rattle.lift_rows.specs.declared.error.RowError.{RowError}
use Rattle.lift_rows.specs.declared.error.RowError.TheVariants.{RowSum, Negative, RowParameters, TooWide}

-- a row, by its state and choice
abbrev pub row_text : ℕ × ℕ → List ℕ
row_text row = codes "state " ++ decimal row.0 ++ codes " choice " ++ decimal row.1 ++ codes ": "

-- what is wrong with a row, with its numbers
abbrev pub row_fault : RowError → List ℕ
row_fault (RowSum s a set sum) = codes "set " ++ decimal set ++ codes " sums to " ++ signed_decimal sum
row_fault (Negative s a target corner weight) = codes "target " ++ decimal target ++ codes " at corner " ++ decimal corner ++ codes " has weight " ++ signed_decimal weight
row_fault (RowParameters s a count) = decimal count ++ codes " parameters"
row_fault (TooWide s a) = codes "too wide"
