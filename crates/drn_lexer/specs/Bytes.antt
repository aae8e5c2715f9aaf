-- The bytes of a model text, by this project's profile of the DRN format.
use Prim.Native.Char.{code}
use Rattle.std.specs.Prelude.{ℕ, Bool, not, nat_le, ◌==◌, ◌||◌, ◌&&◌}

-- a tab, or from a space to a tilde: the bytes of a model text that are no ends of lines
abbrev pub is_text_byte : ℕ → Bool
is_text_byte b = (b == code "\t") || (nat_le (code " ") b && nat_le b (code "~"))

-- any other byte
abbrev pub is_other_byte : ℕ → Bool
is_other_byte b = not (is_text_byte b)
