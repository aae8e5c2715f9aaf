-- How large numbers may be.
use Rattle.std.specs.Prelude.{ℕ, ◌^◌}

-- Every numerator, denominator and end has a size below this. The limit is this project's own.
abbrev pub size_limit : ℕ
size_limit = 2 ^ 62

-- a product of two such numbers has a size below this
abbrev pub product_limit : ℕ
product_limit = 2 ^ 124

-- and a sum of two such products below this
abbrev pub sum_limit : ℕ
sum_limit = 2 ^ 125
