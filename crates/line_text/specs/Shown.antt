-- How what the code holds is seen, and what its functions answer.
use Prim.Native.Char.{code}
use Rattle.std.specs.Prelude.{◌≡◌, ◌≢◌, ◌==◌, ◌≤◌, ◌^◌, ℕ, ℤ, pos, neg_ℤ, Bool, true, false, List, [], ◌∷◌, ◌++◌, length, Option, Some, None, Result, Ok, Err, if◌then◌else◌}
use Rattle.std.specs.Option.{option_map}
use Rattle.std.specs.Str.{bytes_eq}
use Rattle.std.specs.Str.Parse.{digits_value}
use Rattle.line_text.specs.declared.error.TextCause.{TextCause}
use Rattle.line_text.specs.declared.error.TextCause.TheVariants.{Memory}
use Rattle.line_text.specs.Words.{are_digits, words}
use Rattle.line_text.specs.Reading.{◌>>=◌}
use Rattle.line_text.specs.Parts.{Words, Read, each}

-- what a function answers, seen by view, is what is read of the words, unless memory ran out
abbrev pub Says : {X Y : Type 0} → (X → Y) → Result X TextCause → Read Y → Type 0
Says view (Ok x) read = read ≡ Ok (view x)
Says view (Err e) read = e ≢ Memory → read ≡ Err e

-- the words of a text, or none behind its end
abbrev pub words_left : Option (List ℕ) → Words
words_left None = []
words_left (Some text) = words text

-- no word is left
abbrev pub is_none_left : Words → Bool
is_none_left [] = true
is_none_left (w ∷ ws) = false

-- a number, or the one of that size below 0
abbrev pub signed : Bool → ℕ → ℤ
signed true n = neg_ℤ (pos n)
signed false n = pos n

-- a number of at least this size may be called wide
abbrev pub wide_limit : ℕ
wide_limit = 2 ^ 100

-- the digits of a number without leading zeros, and the number that they write where they are few
pub record IsDecimal (ds : List ℕ) (short : ℕ) : Type 0 where
  pub digits : are_digits ds ≡ true
  pub value : length ds ≤ 18 → short ≡ digits_value 10 ds

-- a space, which ends a word
abbrev pub is_space : ℕ → Bool
is_space b = b == code " "

-- what the first word writes, and the words behind it
abbrev pub first_of : {A : Type 0} → (List ℕ → Option A) → Words → Option (A × Words)
first_of of [] = None
first_of of (word ∷ words) = option_map (λ x. (x, words)) (of word)

-- the first word is this byte alone
abbrev pub begins_alone : ℕ → Words → Bool
begins_alone byte [] = false
begins_alone byte (word ∷ words) = bytes_eq word (byte ∷ [])

-- the words behind the first one, where that is this byte alone
abbrev pub behind_byte : ℕ → Words → Option Words
behind_byte byte [] = None
behind_byte byte (word ∷ words) = if bytes_eq word (byte ∷ []) then Some words else None

-- what all words write is what is done, and what those write that are left
abbrev pub Goes : {A : Type 0} → (List ℕ → Option A) → Words → List A → Words → Type 0
Goes of start done rest = each of start ≡ (each of rest >>= λ xs. Ok (done ++ xs))
