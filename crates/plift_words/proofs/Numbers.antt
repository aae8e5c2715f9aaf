-- Numbers of a few digits.
use Rattle.std.proofs.Common.{◌≡◌, ◌≤◌, ◌<◌, ◌==◌, ℕ, List, length, Result, true, false, ap, arith, rules}
use Rattle.std.specs.Prelude.{nat_le}
use Rattle.std.specs.List.{list_all}
use Rattle.std.specs.Result.{result_ok}
use Rattle.std.specs.Char.{is_ascii_digit}
use Rattle.std.specs.Str.Parse.{digits_value, ParsesUnsigned}
use Rattle.std.proofs.lemmas.Bool.Decides.{nat_tests}
use Rattle.std.proofs.lemmas.Str.Parse.{IsNumeralModel, numerals_by_value, digits_value_short, parse_gives}
use Rattle.plift_words.specs.Values.{number_of}

digits : IsNumeralModel (λ ds. list_all is_ascii_digit ds ≡ true) (digits_value 10)
digits = numerals_by_value _ (search rules)

-- a few digits are read as the number that they write
pub few_digits : {E : Type 0} (most : ℕ) (word : List ℕ) (r : Result ℕ E) → ParsesUnsigned 64 10 word r → list_all is_ascii_digit word ≡ true → (length word == 0) ≡ false → most ≤ 10 → length word ≤ most
    → result_ok r ≡ number_of most word
few_digits most word r h all some fits short =
    let above : 0 < length word = grind (arith, nat_tests) in
    let few : nat_le (length word) most ≡ true = grind (arith, nat_tests) in
    let read = parse_gives digits 64 word r h all above (omega (arith, digits_value_short digits word 10 all (omega (arith, short, fits)))) in
    rw (all, some, few) (ap result_ok read)
