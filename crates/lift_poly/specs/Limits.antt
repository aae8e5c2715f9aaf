-- How large polynomials may be. The limits are this project's own.
use Rattle.std.specs.Prelude.{ℕ, ◌^◌}

-- a parameter's index is below this
abbrev pub parameter_limit : ℕ
parameter_limit = 16

-- a set of parameters is below this
abbrev pub set_limit : ℕ
set_limit = 2 ^ 16

-- a coefficient has a size below this
abbrev pub term_limit : ℕ
term_limit = 2 ^ 125

-- where each coefficient has a size below this, the sizes can be summed
abbrev pub summand_limit : ℕ
summand_limit = 2 ^ 100
