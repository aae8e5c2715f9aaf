-- What is read of the words of a line that are left, behind those that were read. What is out of range is told behind the form of all.
use Rattle.std.specs.Prelude.{ℕ, ℤ, pos, negsuc, ◌+◌, ◌==◌, ◌&&◌, ◌++◌, drop, nat_lt, Bool, List, length, map, Option, Some, None, Ok, if◌then◌else◌}
use Rattle.std.specs.List.{list_all}
use Rattle.corner_lift.specs.Certificate.{unmarked}
use Rattle.line_text.specs.declared.error.TextCause.TheVariants.{Syntax, Limit}
use Rattle.line_text.specs.Words.{number_of}
use Rattle.line_text.specs.Reading.{◌>>=◌}
use Rattle.line_text.specs.Parts.{Words, Read, must, each}
use Rattle.line_text.specs.Shown.{first_of}
use Rattle.std.specs.Option.{option_map}
use Rattle.cert_text.specs.Lines.{is_value, mark_of, marks_in}
use Rattle.cert_text.specs.Shown.{in_values}

-- what is read of numbers that are left behind these, of which each fits or not
abbrev pub values_left : ℕ → ℕ → List ℤ → Bool → Words → Read (List ℤ)
values_left count u done fit words = do
  zs ← each number_of words
  _ ← must (length (done ++ zs) == count) Syntax
  _ ← must (fit && list_all (is_value u) zs) Limit
  Ok (done ++ zs)

-- the mark, if it is none or below its end
abbrev pub in_marks : ℕ → Option ℤ → Option ℕ
in_marks end None = Some unmarked
in_marks end (Some (pos n)) = if nat_lt n end then Some n else None
in_marks end (Some (negsuc n)) = None

-- the number that the first word writes, if it is from 0 to 2 ^ u, and the words behind it
abbrev pub value_first : ℕ → Words → Option (Option ℤ × Words)
value_first u words = option_map (λ x. (in_values u x.0, x.1)) (first_of number_of words)

-- the mark that the first word writes, if it is none or below its end, and the words behind it
abbrev pub mark_first : ℕ → Words → Option (Option ℕ × Words)
mark_first end words = option_map (λ x. (in_marks end x.0, x.1)) (first_of mark_of words)

-- what the marks of states stay below: one limit for all, or the number of each one's choices
abbrev pub ends_of : {A : Type 0} → Option ℕ → List (List A) → List ℕ
ends_of None states = map length states
ends_of (Some limit) states = map (λ _. limit) states

-- marks, if there is one for each of the ends, and each is none or below its end
abbrev pub marks_so : List ℕ → List (Option ℤ) → Read (List ℕ)
marks_so ends ms = must (length ms == length ends) Syntax >>= λ _. marks_in ends ms

-- the marks that words write, if there is one for each of the ends, and each is none or below its end
abbrev pub marks_by : List ℕ → Words → Read (List ℕ)
marks_by ends words = each mark_of words >>= marks_so ends

-- what is read of marks that are left behind these, of which each fits or not
abbrev pub marks_left : List ℕ → List ℕ → Bool → Words → Read (List ℕ)
marks_left ends done fit words = do
  ms ← each mark_of words
  _ ← must (length done + length ms == length ends) Syntax
  _ ← must fit Limit
  more ← marks_in (drop (length done) ends) ms
  Ok (done ++ more)
