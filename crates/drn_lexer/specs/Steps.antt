-- What the private functions find, for their contracts alone.
use Rattle.std.specs.Prelude.{◌≡◌, ◌<◌, ◌≤◌, ◌+◌, ◌-◌, ℕ, List, [], ◌∷◌, length, slice_range, Option, Some, None, Result, Ok, Err, if◌then◌else◌}
use Rattle.std.specs.List.{prefix_len}
use Rattle.lift_bytes.specs.Bytes.{is_blank}
use Rattle.drn_lexer.specs.Lines.{TextLine, lines_at, own_fault, is_comment, span_of, place_behind}
use Rattle.drn_lexer.specs.Words.{WordKind}
use Rattle.drn_lexer.specs.declared.error.LexError.{LexError}
use Rattle.drn_lexer.specs.declared.line.Line.{Line}
use Rattle.drn_lexer.specs.declared.line.Place.{Place}
use Rattle.drn_lexer.specs.declared.word.WordForm.{WordForm}

-- ---- lines before they are trimmed

-- the line of the text that stands there
abbrev pub text_line : List ℕ → Line → TextLine
text_line text raw = record { number = raw.number; at = raw.from; bytes = slice_range text raw.from raw.to }

-- No line is left at the place.
pub record IsAtEnd (text : List ℕ) (place : Place) : Type 0 where
  pub at_end : place.at ≡ length text
  pub no_line : lines_at text place ≡ []

-- The first line at the place stands there, without its line feed.
pub record IsFirstLine (text : List ℕ) (place : Place) (raw : Line) : Type 0 where
  pub from : raw.from ≡ place.at
  pub number : raw.number ≡ place.number
  pub some : raw.from < length text
  pub ordered : raw.from ≤ raw.to
  pub within : raw.to ≤ length text
  pub lines_are : lines_at text place ≡ text_line text raw ∷ lines_at text (place_behind text (text_line text raw))

-- what a line gives: what is wrong with it, nothing where it is a comment, or where it stands
abbrev pub judged : TextLine → Result (Option Line) LexError
judged line = elim (own_fault line) [ Some fault ↦ Err fault | None ↦ if is_comment line then Ok None else Ok (Some (span_of line)) ]

-- ---- pieces of a line

-- The bytes between the places `at` and `to` of a text, without the blanks at their front, begin at `from`.
pub record IsBehindBlanks (text : List ℕ) (at to from : ℕ) (rest : List ℕ) : Type 0 where
  pub from_is : from ≡ at + prefix_len is_blank (slice_range text at to)
  pub rest_is : rest ≡ slice_range text from to
  pub within : from ≤ to
  pub ends : to ≤ length text

-- The front of a word as code gives it, its first byte counted, is this front of the definition, which counts the bytes behind the first.
abbrev pub FrontIs : Result (ℕ × WordForm) LexError → ℕ × WordKind → Type 0
FrontIs (Ok given) front = (given.0 - 1, Ok given.1) ≡ front
FrontIs (Err fault) front = front.1 ≡ Err fault
