-- What a line says by its words: forms, and numbers with their ranges.
use Rattle.std.specs.Prelude.{ℕ, ℤ, pos, negsuc, Bool, true, false, nat_lt, nat_le, ◌&&◌, List, [], ◌∷◌, length, int_lt, Option, Some, None, Result, Ok, Err}
use Rattle.std.specs.Ordering.{int_eq}
use Rattle.std.specs.Str.{bytes_eq}
use Rattle.line_text.specs.declared.error.TextCause.{TextCause}
use Rattle.line_text.specs.declared.error.TextCause.TheVariants.{Syntax, Limit}
use Rattle.line_text.specs.Words.{number_of}
use Rattle.line_text.specs.Reading.{◌>>=◌}

-- words, or what else is read of them
abbrev pub Words : Type 0
Words = List (List ℕ)

-- what is read of words, or the cause of a refusal
abbrev pub Read : Type 0 → Type 0
Read A = Result A TextCause

-- ---- forms

-- a test, and the cause where it fails
abbrev pub must : Bool → TextCause → Read (Unit {0})
must true cause = Ok tt
must false cause = Err cause

-- a word of that form, or Syntax
abbrev pub spelled : {A : Type 0} → Option A → Read A
spelled None = Err Syntax
spelled (Some x) = Ok x

-- what stands behind a word that has to stand first
abbrev pub keyed : List ℕ → Words → Read Words
keyed key [] = Err Syntax
keyed key (word ∷ words) = must (bytes_eq word key) Syntax >>= λ _. Ok words

-- the first of several, and those behind it
abbrev pub first : {A : Type 0} → List A → Read (A × List A)
first [] = Err Syntax
first (x ∷ xs) = Ok (x, xs)

-- nothing is left
abbrev pub ended : {A : Type 0} → List A → Read (Unit {0})
ended [] = Ok tt
ended (x ∷ xs) = Err Syntax

-- the only one
abbrev pub single : {A : Type 0} → List A → Read A
single xs = first xs >>= λ x. ended x.1 >>= λ _. Ok x.0

-- what each word writes
abbrev pub each : {A : Type 0} → (List ℕ → Option A) → Words → Read (List A)
each of [] = Ok []
each of (word ∷ words) = spelled (of word) >>= λ x. each of words >>= λ xs. Ok (x ∷ xs)

-- a word, and numbers behind it
abbrev pub numbers_of : List ℕ → Words → Read (List ℤ)
numbers_of key words = keyed key words >>= each number_of

-- a word, the number of those behind it, and these words
abbrev pub count_of : List ℕ → Words → Read (ℤ × Words)
count_of key words = do
  rest ← keyed key words
  parts ← first rest
  count ← spelled (number_of parts.0)
  Ok (count, parts.1)

-- a word, the number of those behind it, and what these write
abbrev pub counted : {A : Type 0} → List ℕ → (List ℕ → Option A) → Words → Read (List A)
counted key of words = do
  parts ← count_of key words
  xs ← each of parts.1
  _ ← must (int_eq parts.0 (pos (length xs))) Syntax
  Ok xs

-- ---- numbers

-- the number, from low to below end
abbrev pub between : ℕ → ℕ → ℤ → Read ℕ
between low end (pos n) = must (nat_le low n && nat_lt n end) Limit >>= λ _. Ok n
between low end (negsuc n) = Err Limit

-- a number from 0 on, or Syntax
abbrev pub natural : ℤ → Read ℕ
natural (pos n) = Ok n
natural (negsuc n) = Err Syntax

-- a word and one number in that range
abbrev pub number_in : List ℕ → ℕ → ℕ → Words → Read ℕ
number_in key low end words = numbers_of key words >>= single >>= between low end

-- the number is above the one before it
abbrev pub is_above : Option ℕ → ℤ → Bool
is_above None z = true
is_above (Some n) z = int_lt (pos n) z
