-- The words of a line, and the forms of a word.
use Rattle.std.specs.Prelude.{ℕ, ℤ, pos, negsuc, zero, suc, Bool, false, List, [], ◌∷◌, ◌==◌, ◌&&◌, not, Option, Some, None, if◌then◌else◌}
use Rattle.std.specs.List.{list_all, slice_split, before_first, after_first}
use Rattle.std.specs.Option.{option_map, option_zip}
use Rattle.std.specs.Char.{is_ascii_digit}
use Rattle.std.specs.Str.Parse.{digits_value}
use Prim.Native.Char.{code}

-- the words of a line without its line feed, cut at each space
abbrev pub words : List ℕ → List (List ℕ)
words text = slice_split (λ b. b == code " ") text

-- the digits of a number without leading zeros: one digit, or several of which the first isn't 0
abbrev pub are_digits : List ℕ → Bool
are_digits [] = false
are_digits (d ∷ []) = is_ascii_digit d
are_digits (d ∷ ds) = not (d == code "0") && (is_ascii_digit d && list_all is_ascii_digit ds)

-- the number from 0 on that a word writes
abbrev pub natural_of : List ℕ → Option ℕ
natural_of word = if are_digits word then Some (digits_value 10 word) else None

-- the number below 0 of that size; none for 0
abbrev pub below_zero : Option ℕ → Option ℤ
below_zero None = None
below_zero (Some zero) = None
below_zero (Some (suc n)) = Some (negsuc n)

-- the number that a word writes; a `-` stands only before a number below 0
abbrev pub number_of : List ℕ → Option ℤ
number_of [] = None
number_of (b ∷ digits) = if b == code "-" then below_zero (natural_of digits) else option_map pos (natural_of (b ∷ digits))

-- the two numbers that a word writes with this byte between them
abbrev pub pair_of : ℕ → List ℕ → Option (ℤ × ℤ)
pair_of byte word = option_zip (number_of (before_first (λ b. b == byte) word)) (number_of (after_first (λ b. b == byte) word))
