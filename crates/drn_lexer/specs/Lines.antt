-- The lines of a model text, by this project's profile of the DRN format.
use Prim.Native.Char.{code}
use Rattle.std.specs.Prelude.{ℕ, Bool, true, false, nat_eq, nat_lt, List, [], ◌∷◌, ◌==◌, ◌&&◌, ◌||◌, ◌+◌, ◌-◌, ◌^◌, not, min, take, drop, length, codes, Option, Some, None, Result, Ok, Err, if◌then◌else◌}
use Rattle.std.specs.List.{slice_split, prefix_len, list_all, starts_with, ends_with}
use Rattle.lift_bytes.specs.Bytes.{is_blank}
use Rattle.lift_bytes.specs.Trimming.{trimmed}
use Rattle.drn_lexer.specs.Bytes.{is_text_byte}
use Rattle.drn_lexer.specs.declared.error.LexError.{LexError}
use Rattle.drn_lexer.specs.declared.error.LexError.TheVariants.{NotText, LongLine}
use Rattle.drn_lexer.specs.declared.line.Line.{Line}
use Rattle.drn_lexer.specs.declared.line.Place.{Place}

-- a line as it stands in its text: its number, where it begins, and its bytes without the line feed
pub record TextLine : Type 0 where
  pub number : ℕ
  pub at : ℕ
  pub bytes : List ℕ

-- a last piece without line feed is a line only where it isn't empty
abbrev pub without_empty_end : List (List ℕ) → List (List ℕ)
without_empty_end [] = []
without_empty_end ([] ∷ []) = []
without_empty_end (piece ∷ pieces) = piece ∷ without_empty_end pieces

-- pieces that stand one behind the other, a line feed between them, as lines: the first one has this number and begins at this place
abbrev pub numbered : ℕ → ℕ → List (List ℕ) → List TextLine
numbered number at [] = []
numbered number at (piece ∷ pieces) = record { number = number; at = at; bytes = piece } ∷ numbered (number + 1) (at + length piece + 1) pieces

-- the lines of a text whose first one has this number and begins at this place
unfoldable pub lines_from : ℕ → ℕ → List ℕ → List TextLine
lines_from number at text = numbered number at (without_empty_end (slice_split (λ b. b == code "\n") text))

-- the lines of a text, cut at line feeds and numbered from 1
abbrev pub lines : List ℕ → List TextLine
lines text = lines_from 1 0 text

-- the lines from a place on
abbrev pub lines_at : List ℕ → Place → List TextLine
lines_at text place = lines_from place.number place.at (drop place.at text)

-- without one carriage return at the end
abbrev pub without_return : List ℕ → List ℕ
without_return bytes = if ends_with nat_eq bytes (codes "\r") then take (length bytes - 1) bytes else bytes

-- what a line says: its bytes without one carriage return at the end, and then without blanks at both ends
abbrev pub content : TextLine → List ℕ
content line = trimmed (without_return line.bytes)

-- where that stands in the text
abbrev pub span_of : TextLine → Line
span_of line =
    let from = line.at + prefix_len is_blank (without_return line.bytes) in
    record { from = from; to = from + length (content line); number = line.number }

-- a line that says `//` and anything
abbrev pub is_comment : TextLine → Bool
is_comment line = starts_with nat_eq (content line) (codes "//")

-- a line that says nothing
abbrev pub is_blank_line : TextLine → Bool
is_blank_line line = length (content line) == 0

-- a text has fewer bytes than this, so that the number of each line fits its type
abbrev pub text_limit : ℕ
text_limit = 2 ^ 31

-- the most bytes of a line without its line feed
abbrev pub line_limit : ℕ
line_limit = 2 ^ 20

-- more bytes than that
abbrev pub is_long : TextLine → Bool
is_long line = nat_lt line_limit (length line.bytes)

-- What is wrong with a line by itself. Its length is tested first, and a comment line may hold any bytes.
abbrev pub own_fault : TextLine → Option LexError
own_fault line = if is_long line then Some LongLine else (if is_comment line || list_all is_text_byte (content line) then None else Some NotText)

-- a comment line that isn't too long is passed over
abbrev pub is_passed_over : TextLine → Bool
is_passed_over line = is_comment line && not (is_long line)

-- the lines from the first one on that isn't passed over
unfoldable pub behind_comments : List TextLine → List TextLine
behind_comments [] = []
behind_comments (line ∷ lines) = elim (is_passed_over line) [ true ↦ behind_comments lines | false ↦ line ∷ lines ]

-- what the first of these lines gives: where it stands or what is wrong with it, and nothing where there is none
abbrev pub answer_of : List TextLine → Result (Option Line) LexError
answer_of [] = Ok None
answer_of (line ∷ lines) = elim (own_fault line) [ Some fault ↦ Err fault | None ↦ Ok (Some (span_of line)) ]

-- the place behind a line: behind its line feed, or at the end of the text
abbrev pub place_behind : List ℕ → TextLine → Place
place_behind text line = record { at = min (line.at + length line.bytes + 1) (length text); number = line.number + 1 }

-- Where the reading goes on once it gave what the first of these lines gives: behind a line that was given, at a line that was refused, and else behind all lines from the place on.
abbrev pub place_after : List ℕ → Place → List TextLine → Place
place_after text place [] = record { at = length text; number = place.number + length (lines_at text place) }
place_after text place (line ∷ lines) = elim (own_fault line) [ Some fault ↦ record { at = line.at; number = line.number } | None ↦ place_behind text line ]
