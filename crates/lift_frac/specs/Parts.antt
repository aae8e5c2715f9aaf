-- A literal's parts as the code holds them.
use Rattle.std.specs.Prelude.{◌≡◌, ◌^◌, ℕ, true, nat_lt, Option, Some, None, if◌then◌else◌}
use Rattle.std.specs.List.{list_all}
use Rattle.std.specs.Char.{is_ascii_digit}
use Rattle.lift_frac.specs.Literal.{Literal}
use Rattle.lift_frac.specs.declared.parts.Parts.{Parts}

-- the literal with these parts
abbrev pub literal_of : Parts → Literal
literal_of p = record { whole = p.whole.now; decimals = p.decimals.now; negative = p.negative; exponent = p.exponent.now }

-- the parts hold digits alone
pub record AreDigits (p : Parts) : Type 0 where
  pub whole : list_all is_ascii_digit p.whole.now ≡ true
  pub decimals : list_all is_ascii_digit p.decimals.now ≡ true
  pub exponent : list_all is_ascii_digit p.exponent.now ≡ true

-- An exponent from here on is read as too large: no text is long enough to make up for it. No number is read to a limit above this.
abbrev pub exponent_limit : ℕ
exponent_limit = 2 ^ 100

-- what raises or lowers a power of ten is below this: an exponent below its limit, and as many more as a text has bytes
abbrev pub power_limit : ℕ
power_limit = 2 ^ 101

-- n; none from the limit on
abbrev pub capped : ℕ → ℕ → Option ℕ
capped limit n = if nat_lt n limit then Some n else None
