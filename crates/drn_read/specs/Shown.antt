-- How the code's pieces of a text are seen. No public clause rests on it.
use Rattle.std.specs.Prelude.{◌≡◌, ◌≢◌, ◌≤◌, ◌<◌, ◌+◌, ℕ, Bool, false, nat_le, List, [], ◌∷◌, length, drop, map, slice_range, codes, unsigned_abs, All, Option, Some, None, Result, Ok, Err, if◌then◌else◌}
use Rattle.std.specs.List.{list_any}
use Rattle.std.specs.Str.{bytes_eq}
use Rattle.lift_bytes.specs.Bytes.{is_name_byte, behind}
use Rattle.lift_frac.specs.Parts.{capped}
use Rattle.lift_poly.specs.Polynomial.{Term}
use Rattle.lift_model.specs.Valid.{coefficient_limit, common_limit}
use Rattle.drn_lexer.specs.Cutting.{Piece}
use Rattle.drn_lexer.specs.Lines.{TextLine, content, lines_at, behind_comments, answer_of}
use Rattle.drn_lexer.specs.Spans.{IsNextLine}
use Rattle.drn_lexer.specs.Words.{WordKind, words}
use Rattle.drn_lexer.specs.declared.error.LexError.{LexError}
use Rattle.drn_lexer.specs.declared.error.LexError.TheVariants as lex
use Rattle.drn_lexer.specs.declared.line.Place.{Place}
use Rattle.drn_lexer.specs.declared.line.Line.{Line}
use Rattle.drn_lexer.specs.declared.symbol.SymbolForm.{SymbolForm}
use Rattle.drn_expr.specs.RatPolys.{OverOne}
use Rattle.drn_read.specs.Faults.{first_of, lexed}
use Rattle.drn_read.specs.Sections.{Placeholder, placeholder_name}
use Rattle.drn_read.specs.States.{is_label}
use Rattle.drn_read.specs.Judging.{Said, most_placeholders}
use Rattle.lift_frac.specs.Gcd.{lcm}
use Rattle.drn_read.specs.Reading.{ended, drn}
use Rattle.drn_read.specs.declared.error.DrnCause.{DrnCause}
use Rattle.drn_read.specs.declared.error.DrnCause.TheVariants.{OpenQuote, Memory}
use Rattle.drn_read.specs.declared.error.DrnError.{DrnError}
use Rattle.drn_read.specs.declared.state.Transition.{Transition}
use Rattle.drn_read.specs.declared.labels.Labels.{Labels}
use Rattle.drn_read.specs.declared.cursor.Cursor.{Cursor}
use Rattle.drn_read.specs.declared.cursor.LineWord.{LineWord}
use Rattle.drn_read.specs.declared.cursor.LineSymbol.{LineSymbol}

-- the answer is what this fault says, want of memory aside
abbrev pub Tells : {A : Type 0} → Result A DrnCause → Option DrnCause → Type 0
Tells (Ok x) fault = fault ≡ None
Tells (Err cause) fault = cause ≢ Memory → fault ≡ Some cause

-- the same of a fault that has a line
abbrev pub TellsLine : {A : Type 0} → Result A DrnError → Option DrnError → Type 0
TellsLine (Ok x) fault = fault ≡ None
TellsLine (Err error) fault = error.cause ≢ Memory → fault ≡ Some error

-- what is left of the line
abbrev pub rest : Cursor → List ℕ
rest c = slice_range c.text.now c.at c.line.to

-- the words that are left
abbrev pub left : Cursor → List (Piece WordKind)
left c = words (rest c)

-- this line is left whole
pub record IsSource (cursor : Cursor) (source : TextLine) : Type 0 where
  pub says : rest cursor ≡ content source
  pub number : cursor.line.number ≡ source.number

-- a word of the code
abbrev pub piece : LineWord → Piece WordKind
piece w = record { form = Ok w.form; bytes = w.bytes.now }

-- the first of these words begins with a quote that has no end
pub record BeginsOpen (words : List (Piece WordKind)) : Type 0 where
  pub word : Piece WordKind
  pub others : List (Piece WordKind)
  pub are : words ≡ word ∷ others
  pub open_quote : word.form ≡ Err lex.OpenQuote

-- the next of these words was given, none where none is left, and refused where its quote has no end
abbrev pub GivesWord : List (Piece WordKind) → Result (Option LineWord) DrnCause → List (Piece WordKind) → Type 0
GivesWord old (Ok None) new = old ≡ []
GivesWord old (Ok (Some w)) new = old ≡ piece w ∷ new
GivesWord old (Err cause) new = (cause ≡ OpenQuote) × BeginsOpen old

-- the next of these symbols was given, none where none is left
abbrev pub GivesSymbol : List (Piece SymbolForm) → Option LineSymbol → List (Piece SymbolForm) → Type 0
GivesSymbol old None new = old ≡ []
GivesSymbol old (Some s) new = old ≡ record { form = s.form; bytes = s.bytes.now } ∷ new

-- whether these words carry `init`, and whether they carry the goal's label
pub record Carries (goal : List ℕ) (words : List (Piece WordKind)) (labels : Labels) : Type 0 where
  pub init : labels.init ≡ list_any (is_label (codes "init")) words
  pub label : labels.goal ≡ list_any (is_label goal) words

-- names and values as placeholders, one behind the other
abbrev pub paired : List (List ℕ) → List OverOne → List Placeholder
paired (name ∷ names) (value ∷ values) = record { name = name; value = value } ∷ paired names values
paired _ _ = []

-- the lines of a text were read, and the number of the last one was given
abbrev pub ReadsLines : List ℕ → List ℕ → Result ℕ DrnError → Said → Type 0
ReadsLines label text (Ok number) kept = drn text label ≡ ended number kept
ReadsLines label text (Err error) kept = error.cause ≢ Memory → drn text label ≡ Err error

-- the next line that is no comment is refused by this fault of its own, with its number
pub record IsLineFault (text : List ℕ) (old new : Place) (error : DrnError) : Type 0 where
  pub fault : LexError
  pub answer : Err fault ≡ answer_of (behind_comments (lines_at text old))
  pub error_is : error ≡ record { line = new.number; cause = lexed fault }

-- the next line that is no comment was given, none where none is left, and refused by its own fault
abbrev pub IsNext : List ℕ → Place → Place → Result (Option Line) DrnError → Type 0
IsNext text old new (Ok None) = Ok None ≡ answer_of (behind_comments (lines_at text old))
IsNext text old new (Ok (Some line)) = IsNextLine text old new line
IsNext text old new (Err error) = IsLineFault text old new error

-- The name was told of a placeholder's line, and is new behind these placeholders. Behind it stands the rest of the line.
pub record IsNewName (before : List Placeholder) (line found : List ℕ) : Type 0 where
  pub within : 1 + length found ≤ length line
  pub name : found ≡ placeholder_name line
  pub behind : drop (1 + length found) line ≡ behind is_name_byte (drop 1 line)
  pub room : length before < most_placeholders
  pub new : list_any (λ p. bytes_eq found p.name) before ≡ false

-- the refusal, if the answer is one
abbrev pub refusal : {A : Type 0} → Result A DrnError → Option DrnError
refusal (Ok x) = None
refusal (Err error) = Some error

-- the line of a transition whose target isn't one of so many states
abbrev pub outside : ℕ → Transition → Option ℕ
outside count t = if nat_le count t.target then Some t.line else None

-- each target is below this number
abbrev pub TargetsBelow : ℕ → List Transition → Type 0
TargetsBelow limit choice = All (λ t. t.target < limit) choice

-- a coefficient is too large
abbrev pub is_over : Term → Bool
is_over term = nat_le coefficient_limit (unsigned_abs term.1)

-- what is found first in a list
abbrev pub first_in : {A B : Type 0} → (A → Option B) → List A → Option B
first_in found xs = first_of (map found xs)

-- the least common multiple with the denominator of a transition's value
abbrev pub with_den : ℕ → Transition → ℕ
with_den c t = lcm c t.value.den

-- the number that stands here, none where it is too large, becomes this other number
pub record Becomes (old new : Option ℕ) (change : ℕ → ℕ) : Type 0 where
  pub is : (c : ℕ) → old ≡ capped common_limit c → new ≡ capped common_limit (change c)
