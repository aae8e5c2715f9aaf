-- The greatest common divisor, by Euclid's steps, and the least common multiple.
use Rattle.std.specs.Prelude.{ℕ, zero, suc, ◌*◌, ◌/◌, ◌%◌}

-- Euclid's algorithm, stopped after n steps: (a, b) becomes (b, a mod b) until b is 0.
abbrev pub gcd_steps : ℕ → ℕ → ℕ → ℕ
gcd_steps zero a b = a
gcd_steps (suc n) a zero = a
gcd_steps (suc n) a (suc b) = gcd_steps n (suc b) (a % suc b)

-- The greatest common divisor: the second number falls with each step, so b steps are enough.
unfoldable pub gcd : ℕ → ℕ → ℕ
gcd a b = gcd_steps b a b

-- the least common multiple
abbrev pub lcm : ℕ → ℕ → ℕ
lcm a b = a / gcd a b * b
