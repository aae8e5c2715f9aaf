-- Numbers of few digits.
use Rattle.std.proofs.Common.{◌≡◌, ◌≤◌, ◌<◌, ◌^◌, ℕ, Bool, true, false, refl, List, [], ◌∷◌, length, sym, arith, Option, None, Some, Result, Ok, Err}
use Rattle.std.specs.Prelude.{nat_le, ◌&&◌}
use Rattle.std.specs.List.{list_all}
use Rattle.std.specs.Char.{is_ascii_digit, digit_value}
use Rattle.std.specs.Result.{result_ok}
use Rattle.std.specs.Str.Parse.{AllDigits, digits_value}
use Rattle.std.proofs.Math.Nat.{pow-le-pow_right}
use Rattle.std.proofs.lemmas.Bool.Decides.{nat_tests}
use Rattle.std.proofs.lemmas.Int.Digits.{digits_value-lt}
use Rattle.lift_frac.specs.Parts.{capped}
use Rattle.drn_read.specs.Faults.{fault_of}
use Rattle.drn_read.specs.Text.{is_digits}
use Rattle.drn_read.specs.Judging.{count_fault}
use Rattle.drn_read.specs.declared.error.DrnCause.{DrnCause}

both : (a b : Bool) → (a && b) ≡ true → (a ≡ true) × (b ≡ true)
both true true e = (refl, refl)
both true false e = cc
both false b e = cc

digit_below : (d : ℕ) → is_ascii_digit d ≡ true → digit_value d < 10
digit_below d h = grind (arith, nat_tests)

pub all_digits : (word : List ℕ) → list_all is_ascii_digit word ≡ true → AllDigits 10 word
all_digits [] h = tt
all_digits (d ∷ ds) h = let parts = both (is_ascii_digit d) (list_all is_ascii_digit ds) h in (digit_below d parts.0, all_digits ds parts.1)

below_limit : (limit n : ℕ) → n < limit → capped limit n ≡ Some n
below_limit limit n h = grind (arith, nat_tests)

few_digits : (word : List ℕ) → list_all is_ascii_digit word ≡ true → length word ≤ 20 → capped (10 ^ 20) (digits_value 10 word) ≡ Some (digits_value 10 word)
few_digits word h few =
    let most : 10 ^ length word ≤ 10 ^ 20 = pow-le-pow_right (omega arith) few in
    let small = digits_value-lt 10 word (all_digits word h) in
    below_limit (10 ^ 20) (digits_value 10 word) (omega (arith, most, small))

short : (n : ℕ) → n ≤ 20 → nat_le n 20 ≡ true
short n h = grind (arith, nat_tests)

no_fault : (line : List ℕ) → is_digits line ≡ true → length line ≤ 20 → count_fault line ≡ None
no_fault line h few = let s = short (length line) few in rw (h, s) refl

-- a line of 1 to 20 digits is a number
pub counted : (line : List ℕ) (found : Option ℕ) (result : Result ℕ DrnCause) → is_digits line ≡ true → length line ≤ 20
    → found ≡ capped (10 ^ 20) (digits_value 10 line) → found ≡ result_ok result → fault_of result ≡ count_fault line
counted line found (Ok n) h few e f = sym (no_fault line h few)
counted line found (Err cause) h few e f =
    let parts = both (list_all is_ascii_digit line) _ h in
    let some = few_digits line parts.0 few in
    cc
