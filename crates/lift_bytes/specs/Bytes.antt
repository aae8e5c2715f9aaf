-- Classes of bytes. They are ASCII: any other byte belongs to none of these classes.
-- `code` gives the number of a character, as in `code ":"`
pub use Prim.Native.Char.{code}
use Rattle.std.specs.Prelude.{ℕ, Bool, false, List, [], ◌∷◌, drop, ◌==◌, ◌||◌, ◌&&◌}
use Rattle.std.specs.List.{prefix_len, list_all}
use Rattle.std.specs.Char.{is_ascii_digit, is_ascii_alphabetic}

-- a space or a tab
abbrev pub is_blank : ℕ → Bool
is_blank b = (b == code " ") || (b == code "\t")

-- a letter or an underscore: what a name begins with
abbrev pub begins_name : ℕ → Bool
begins_name b = is_ascii_alphabetic b || (b == code "_")

-- a letter, a digit or an underscore: what a name goes on with
abbrev pub is_name_byte : ℕ → Bool
is_name_byte b = begins_name b || is_ascii_digit b

-- a name: a letter or an underscore, followed by letters, digits and underscores
abbrev pub is_name : List ℕ → Bool
is_name [] = false
is_name (b ∷ bs) = begins_name b && list_all is_name_byte bs

-- the first byte is there and passes
abbrev pub first_passes : (ℕ → Bool) → List ℕ → Bool
first_passes p [] = false
first_passes p (b ∷ text) = p b

-- the bytes behind those at the front that pass
abbrev pub behind : (ℕ → Bool) → List ℕ → List ℕ
behind p text = drop (prefix_len p text) text
