-- A number's decimal text, and its digits.
use Rattle.std.proofs.Common.{◌≡◌, ◌==◌, ◌<◌, ◌≤◌, ◌^◌, ℕ, true, false, List, length, refl, arith}
use Rattle.std.specs.List.{list_all}
use Rattle.std.specs.Char.{is_ascii_digit}
use Rattle.std.specs.Fmt.{decimal}
use Rattle.std.specs.Str.Parse.{digits_value}
use Rattle.std.proofs.lemmas.Bool.Decides.{nat_tests}
use Rattle.std.proofs.lemmas.Fmt.{decimal_is_IsNumeral, length-decimal-le}
use Rattle.std.proofs.lemmas.Str.Parse.{IsDigitsTest, tells_all_ascii_digits, numerals_by_value}
use Rattle.lift_bytes.specs.Bytes.{is_blank}
use Rattle.drn_lexer.specs.Bytes.{is_text_byte}

-- digits that spell a number below 10^5
pub record IsNumber (ds : List ℕ) (n : ℕ) : Type 0 where
  pub digits : list_all is_ascii_digit ds ≡ true
  pub some : 0 < length ds
  pub short : length ds ≤ 5
  pub value : digits_value 10 ds ≡ n

tells : IsDigitsTest (λ ds. list_all is_ascii_digit ds ≡ true)
tells = record { empty = refl; parts = tells_all_ascii_digits.parts; more = tells_all_ascii_digits.more }

pub number : (n : ℕ) → n < 10 ^ 5 → IsNumber (decimal n) n
number n h =
    let is = decimal_is_IsNumeral n (omega arith) in
    record {
      digits = (numerals_by_value (λ ds. list_all is_ascii_digit ds ≡ true) tells).from (decimal n) is.0.1;
      some = is.0.0;
      short = length-decimal-le 5 n (omega arith) h (omega arith);
      value = is.1;
    }

-- what a digit is not
pub record IsDigit (c : ℕ) : Type 0 where
  pub blank : is_blank c ≡ false
  pub text : is_text_byte c ≡ true
  pub slash : (47 == c) ≡ false
  pub head : (c == 64) ≡ false
  pub s : (c == 115) ≡ false
  pub a : (c == 97) ≡ false
  pub return : (13 == c) ≡ false
  pub quote : (c == 34) ≡ false
  pub bracket : (c == 91) ≡ false

pub digit : (c : ℕ) → is_ascii_digit c ≡ true → IsDigit c
digit c h = record {
  blank = grind (arith, nat_tests, h);
  text = grind (arith, nat_tests, h);
  slash = grind (arith, nat_tests, h);
  head = grind (arith, nat_tests, h);
  s = grind (arith, nat_tests, h);
  a = grind (arith, nat_tests, h);
  return = grind (arith, nat_tests, h);
  quote = grind (arith, nat_tests, h);
  bracket = grind (arith, nat_tests, h);
}
