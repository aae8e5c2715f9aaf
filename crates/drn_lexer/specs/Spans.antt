-- Lines, words and symbols as spans of their text.
use Rattle.std.specs.Prelude.{◌≡◌, ◌<◌, ◌≤◌, ◌+◌, ℕ, List, [], ◌∷◌, length, slice_range, Option, Some, None, Result, Ok, Err}
use Rattle.drn_lexer.specs.Cutting.{Piece}
use Rattle.drn_lexer.specs.Lines.{TextLine, lines_at, behind_comments, own_fault, span_of, content}
use Rattle.drn_lexer.specs.Words.{WordKind, words}
use Rattle.drn_lexer.specs.Symbols.{symbols}
use Rattle.drn_lexer.specs.declared.error.LexError.{LexError}
use Rattle.drn_lexer.specs.declared.line.Line.{Line}
use Rattle.drn_lexer.specs.declared.line.Place.{Place}
use Rattle.drn_lexer.specs.declared.symbol.Symbol.{Symbol}
use Rattle.drn_lexer.specs.declared.symbol.SymbolForm.{SymbolForm}
use Rattle.drn_lexer.specs.declared.word.Word.{Word}

-- the line lies in the text
pub record LiesIn (line : Line) (text : List ℕ) : Type 0 where
  pub ordered : line.from ≤ line.to
  pub within : line.to ≤ length text

-- the place lies on the line, its end included
pub record IsOn (at : ℕ) (line : Line) : Type 0 where
  pub from : line.from ≤ at
  pub to : at ≤ line.to

-- the first of these pieces as a symbol that begins at this place
abbrev pub first_symbol : ℕ → List (Piece SymbolForm) → Option Symbol
first_symbol from [] = None
first_symbol from (piece ∷ pieces) = Some (record { from = from; to = from + length piece.bytes; form = piece.form })

-- the first of these pieces as a word that begins at this place, or what is wrong with it
abbrev pub first_word : ℕ → List (Piece WordKind) → Result (Option Word) LexError
first_word from [] = Ok None
first_word from (piece ∷ pieces) = elim piece.form [ Ok form ↦ Ok (Some (record { from = from; to = from + length piece.bytes; form = form })) | Err fault ↦ Err fault ]

-- The line is the first one from the place `old` on that isn't passed over. Nothing is wrong with it, it lies in the text, and the lines behind it stand at the place `new`, which is further on.
pub record IsNextLine (text : List ℕ) (old new : Place) (line : Line) : Type 0 where
  pub source : TextLine
  pub first : behind_comments (lines_at text old) ≡ source ∷ lines_at text new
  pub sound : own_fault source ≡ None
  pub span : line ≡ span_of source
  pub content : slice_range text line.from line.to ≡ content source
  pub lies : LiesIn line text
  pub forward : old.at < new.at

-- The first piece between the places `at` and `to` of a text stands from `from` to `end` and has this form; the others stand behind it.
pub record IsFirst {Form : Type 0} (pieces : List ℕ → List (Piece Form)) (text : List ℕ) (at to from end : ℕ) (form : Form) : Type 0 where
  pub behind : at ≤ from
  pub some : from < end
  pub within : end ≤ to
  pub first : pieces (slice_range text at to) ≡ record { form = form; bytes = slice_range text from end } ∷ pieces (slice_range text end to)

-- the symbol is the first one of the line from this place on
abbrev pub IsNextSymbol : List ℕ → Line → ℕ → Symbol → Type 0
IsNextSymbol text line at symbol = IsFirst symbols text at line.to symbol.from symbol.to symbol.form

-- the word is the first one of the line from this place on
abbrev pub IsNextWord : List ℕ → Line → ℕ → Word → Type 0
IsNextWord text line at word = IsFirst words text at line.to word.from word.to (Ok word.form)
