-- The words of a line, by this project's profile of the DRN format.
use Prim.Native.Char.{code}
use Rattle.std.specs.Prelude.{ℕ, Bool, false, List, [], ◌∷◌, ◌==◌, ◌&&◌, ◌+◌, ◌-◌, not, take, drop, length, Result, Ok, Err, if◌then◌else◌}
use Rattle.std.specs.List.{list_any, position_or_len}
use Rattle.lift_bytes.specs.Bytes.{is_blank}
use Rattle.drn_lexer.specs.Cutting.{Piece, pieces_behind}
use Rattle.drn_lexer.specs.declared.error.LexError.{LexError}
use Rattle.drn_lexer.specs.declared.error.LexError.TheVariants.{OpenQuote}
use Rattle.drn_lexer.specs.declared.word.WordForm.{WordForm}
use Rattle.drn_lexer.specs.declared.word.WordForm.TheVariants.{Plain, Quoted, Group}

-- a word's form, or what is wrong with it
abbrev pub WordKind : Type 0
WordKind = Result WordForm LexError

-- To the next byte `end`, that byte included, in the form `closed`; where there is none, to the end of the line in the form `unclosed`.
abbrev pub runs_to : ℕ → WordKind → WordKind → List ℕ → ℕ × WordKind
runs_to end closed unclosed tail = if list_any (λ b. b == end) tail then (position_or_len (λ b. b == end) tail + 1, closed) else (length tail, unclosed)

-- The word that begins with the byte b: how many bytes of the tail belong to it, and its form. From `"` it runs to the next `"`, from `[` to the next `]`, and from any other byte to the next blank.
abbrev pub word_front : ℕ → List ℕ → ℕ × WordKind
word_front b tail = if b == code "\"" then runs_to (code "\"") (Ok Quoted) (Err OpenQuote) tail
    else (if b == code "[" then runs_to (code "]") (Ok Group) (Ok Group) tail
    else (position_or_len is_blank tail, Ok Plain))

-- what a word says: a quoted word without its quotes, and any other word as it stands
abbrev pub unquoted : WordForm → List ℕ → List ℕ
unquoted Quoted bytes = take (length bytes - 2) (drop 1 bytes)
unquoted _ bytes = bytes

-- the words of a line
abbrev pub words : List ℕ → List (Piece WordKind)
words line = pieces_behind word_front 0 line

-- a quote at the front that has no end
abbrev pub begins_open_quote : List ℕ → Bool
begins_open_quote [] = false
begins_open_quote (b ∷ tail) = (b == code "\"") && not (list_any (λ c. c == code "\"") tail)
