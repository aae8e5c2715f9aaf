-- The grammar of literals, as a relation between a text and the parts that it writes:
--     literal = digits [ "." digits ] [ ( "e" | "E" ) [ "+" | "-" ] digits ]
use Prim.Native.Char.{code}
use Rattle.std.specs.Prelude.{◌≡◌, ℕ, Bool, true, false, List, [], ◌∷◌, ◌++◌}
use Rattle.std.specs.List.{list_all}
use Rattle.std.specs.Char.{is_ascii_digit}
use Rattle.lift_bytes.specs.Bytes as byte
use Rattle.lift_frac.specs.Literal.{Literal}

-- one digit or more
pub record IsDigits (text : List ℕ) : Type 0 where
  pub some : byte.first_passes is_ascii_digit text ≡ true
  pub all : list_all is_ascii_digit text ≡ true

-- what stands behind the whole digits: nothing, or a point and digits
pub data Decimals : List ℕ → List ℕ → Type 0 where
  no_decimals : Decimals [] []
  point : (digits : List ℕ) → IsDigits digits → Decimals (code "." ∷ digits) digits

-- a sign, and whether it is a minus
pub data Sign : List ℕ → Bool → Type 0 where
  no_sign : Sign [] false
  plus : Sign (code "+" ∷ []) false
  minus : Sign (code "-" ∷ []) true

-- `e` or `E`
pub data Mark : ℕ → Type 0 where
  small_e : Mark (code "e")
  capital_e : Mark (code "E")

-- an exponent, whether it has a minus, and its digits: nothing, or an `e` or `E`, a sign and digits
pub data Exponent : List ℕ → Bool → List ℕ → Type 0 where
  no_exponent : Exponent [] false []
  power : (mark : ℕ) (sign : List ℕ) (negative : Bool) (digits : List ℕ) → Mark mark → Sign sign negative → IsDigits digits
      → Exponent (mark ∷ (sign ++ digits)) negative digits

-- the text writes this literal
pub data Writes : List ℕ → Literal → Type 0 where
  written : (whole behind decimals tail exponent : List ℕ) (negative : Bool) → IsDigits whole → Decimals behind decimals → Exponent tail negative exponent
      → Writes (whole ++ (behind ++ tail)) (record { whole = whole; decimals = decimals; negative = negative; exponent = exponent })
