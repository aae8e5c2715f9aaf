-- What is noted of a guess, so that it can be seen later whether a state's number is still the one that was guessed.
use Rattle.std.specs.Prelude.{ℕ, ◌%◌, ◌/◌, ◌^◌, ℤ, unsigned_abs}

-- the low 28 bits of a number
abbrev pub low_word : ℤ → ℕ
low_word n = unsigned_abs n % 2 ^ 28

-- how many levels of a state's share a note tells apart, in its lowest bits
abbrev pub share_levels : ℕ
share_levels = 16

-- the bits of a number that a note of 32 bits tells, which are those above
abbrev pub noted_word : ℕ → ℕ
noted_word note = note / share_levels
