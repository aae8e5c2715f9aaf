-- Literals, which write fractions: digits, then maybe a point and digits, then maybe `e` or `E`, maybe a sign, and digits.
use Prim.Native.Char.{code}
use Rattle.std.specs.Prelude.{ℕ, Bool, true, false, List, [], ◌∷◌, ◌++◌, ◌==◌, ◌||◌, ◌&&◌, ◌+◌, ◌-◌, ◌*◌, ◌^◌, pos, nat_lt, nat_le, take_while, take, length, Result, Ok, Err, if◌then◌else◌}
use Rattle.std.specs.List.{suffix_len}
use Rattle.std.specs.Char.{is_ascii_digit}
use Rattle.std.specs.Str.Parse.{digits_value}
use Rattle.lift_bytes.specs.Bytes.{first_passes, behind}
use Rattle.lift_frac.specs.Limits.{size_limit}
use Rattle.lift_frac.specs.Ratio.{Ratio, fraction}
use Rattle.lift_frac.specs.declared.error.FracError.{FracError}
use Rattle.lift_frac.specs.declared.error.FracError.TheVariants.{Wide, BadLiteral}

-- The digits before and behind the point, whether the exponent has a minus, and the exponent's digits. What isn't written is empty.
pub record Literal : Type 0 where
  pub whole : List ℕ
  pub decimals : List ℕ
  pub negative : Bool
  pub exponent : List ℕ

-- A point and digits at the front: the digits, and what stands behind them. A point without a digit behind it is no part of a literal.
abbrev pub decimals_at : List ℕ → List ℕ × List ℕ
decimals_at [] = ([], [])
decimals_at (b ∷ text) =
    if (b == code ".") && first_passes is_ascii_digit text then (take_while is_ascii_digit text, behind is_ascii_digit text) else ([], b ∷ text)

-- A sign at the front: whether it is a minus, and what stands behind it.
abbrev pub sign_at : List ℕ → Bool × List ℕ
sign_at [] = (false, [])
sign_at (b ∷ text) = if b == code "-" then (true, text) else (if b == code "+" then (false, text) else (false, b ∷ text))

-- An exponent at the front: whether it has a minus, its digits, and what stands behind them. Without a digit none of it is part of a literal.
abbrev pub exponent_at : List ℕ → Bool × List ℕ × List ℕ
exponent_at [] = (false, [], [])
exponent_at (b ∷ text) = let signed = sign_at text in
    if ((b == code "e") || (b == code "E")) && first_passes is_ascii_digit signed.1
    then (signed.0, take_while is_ascii_digit signed.1, behind is_ascii_digit signed.1) else (false, [], b ∷ text)

-- the longest literal at the front, and what stands behind it
abbrev pub literal_at : List ℕ → Literal × List ℕ
literal_at text = let decimals = decimals_at (behind is_ascii_digit text) in
    let exponent = exponent_at decimals.1 in
    (record { whole = take_while is_ascii_digit text; decimals = decimals.0; negative = exponent.0; exponent = exponent.1 }, exponent.2)

-- the whole text is a literal
abbrev pub is_literal : List ℕ → Bool
is_literal text = first_passes is_ascii_digit text && (length (literal_at text).1 == 0)

-- all digits before the exponent
abbrev pub digits_of : Literal → List ℕ
digits_of l = l.whole ++ l.decimals

-- how many zeros stand at their end
abbrev pub zeros : Literal → ℕ
zeros l = suffix_len (λ b. b == code "0") (digits_of l)

-- the whole number of these digits without the zeros at their end
abbrev pub number : Literal → ℕ
number l = digits_value 10 (take (length (digits_of l) - zeros l) (digits_of l))

-- A literal is worth `number` times ten to the power `up - down`. What raises that power: each zero at the end, and an exponent without a minus.
abbrev pub up : Literal → ℕ
up l = zeros l + (if l.negative then 0 else digits_value 10 l.exponent)

-- What lowers it: each digit behind the point, and an exponent with a minus.
abbrev pub down : Literal → ℕ
down l = length l.decimals + (if l.negative then digits_value 10 l.exponent else 0)

-- the greatest power of ten, up or down
abbrev pub greatest_power : ℕ
greatest_power = 18

-- the number or its power of ten is too large, or the power is too small
abbrev pub is_far : ℕ → ℕ → ℕ → Bool
is_far n up down = nat_le size_limit n || (nat_lt (down + greatest_power) up || nat_lt (up + greatest_power) down)

-- n times ten to the power `up - down`; Wide where that is far, or where a part in lowest terms is too large
abbrev pub scaled : ℕ → ℕ → ℕ → Result Ratio FracError
scaled n up down = if is_far n up down then Err Wide else fraction (pos (n * 10 ^ (up - down))) (pos (10 ^ (down - up)))

-- what a literal is worth; where all its digits are 0 it is 0, whatever its exponent
abbrev pub value_of : Literal → Result Ratio FracError
value_of l = if number l == 0 then Ok (record { num = pos 0; den = pos 1 }) else scaled (number l) (up l) (down l)

-- what a text is worth; BadLiteral where it isn't a literal
abbrev pub reading : List ℕ → Result Ratio FracError
reading text = if is_literal text then value_of (literal_at text).0 else Err BadLiteral
