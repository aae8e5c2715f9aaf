-- Numbers as they are shown.
use Rattle.std.specs.Prelude.{ℕ, ◌+◌, ◌*◌, ◌/◌, ◌%◌, ◌==◌, List, [], ◌++◌, ℤ, pos, int_lt, unsigned_abs, codes, if◌then◌else◌}
use Rattle.std.specs.Fmt.{decimal}
use Rattle.lift_frac.specs.Gcd.{gcd}
use Rattle.view_map.specs.Share.{whole_volume}
use Rattle.view_text.specs.declared.decimal.Places.{Places}
use Rattle.view_text.specs.declared.decimal.Places.TheVariants.{Three, Six, Nine}

-- a share in percent with four digits, rounded down
abbrev pub percent_text : ℕ → List ℕ
percent_text share = let v = share * 1000000 / whole_volume in
    decimal (v / 10000) ++ codes "."
    ++ decimal (v / 1000 % 10) ++ decimal (v / 100 % 10) ++ decimal (v / 10 % 10) ++ decimal (v % 10) ++ codes " %"

-- what stands before a number: a minus where it is below 0
abbrev pub sign_text : ℤ → List ℕ
sign_text n = if int_lt n (pos 0) then codes "-" else []

-- what stands behind a numerator: the denominator, where it isn't 1
abbrev pub divisor_text : ℕ → List ℕ
divisor_text den = if den == 1 then [] else codes "/" ++ decimal den

-- a fraction in lowest terms
abbrev pub fraction_text : ℤ → ℕ → List ℕ
fraction_text num den = let g = gcd (unsigned_abs num) den in sign_text num ++ decimal (unsigned_abs num / g) ++ divisor_text (den / g)

-- ---- decimals, rounded to so many places

-- how many units of the last place make 1
abbrev pub units_of : Places → ℕ
units_of Three = 1000
units_of Six = 1000000
units_of Nine = 1000000000

-- n/den in units of the last place, rounded to the nearest whole number, from a half on upwards
abbrev pub rounded : Places → ℕ → ℕ → ℕ
rounded places n den = (2 * n * units_of places + den) / (2 * den)

-- the last three digits of a number
abbrev pub three_digits : ℕ → List ℕ
three_digits v = decimal (v / 100 % 10) ++ decimal (v / 10 % 10) ++ decimal (v % 10)

-- the digits behind the point
abbrev pub places_text : Places → ℕ → List ℕ
places_text Three v = three_digits v
places_text Six v = three_digits (v / 1000) ++ three_digits v
places_text Nine v = three_digits (v / 1000000) ++ (three_digits (v / 1000) ++ three_digits v)

-- so many units of the last place
abbrev pub point_text : Places → ℕ → List ℕ
point_text places v = (decimal (v / units_of places) ++ codes ".") ++ places_text places v

-- num/den as a decimal
abbrev pub decimal_text : Places → ℤ → ℕ → List ℕ
decimal_text places num den = sign_text num ++ point_text places (rounded places (unsigned_abs num) den)
