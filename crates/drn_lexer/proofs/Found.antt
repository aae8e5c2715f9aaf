-- What the calls for symbols and words answer.
use Rattle.std.proofs.Common.{◌≡◌, ◌+◌, ◌-◌, ◌≤◌, ℕ, Bool, true, false, ◌&&◌, not, take, drop, get_or, List, [], ◌∷◌, length, sym, refl, ◌∙◌, ap, subst, arith, Option, Some, Result, Ok, Err}
use Rattle.std.specs.Prelude.{◌==◌, slice_range, IfErr, if◌then◌else◌}
use Rattle.std.specs.List.{prefix_len, list_any, position_or_len}
use Rattle.lift_bytes.specs.Bytes.{is_blank, behind}
use Rattle.drn_lexer.specs.Cutting.{Piece}
use Rattle.drn_lexer.specs.Symbols.{symbols}
use Rattle.drn_lexer.specs.Words.{WordKind, words, word_front, begins_open_quote}
use Rattle.drn_lexer.specs.Spans.{IsFirst, first_symbol, first_word}
use Rattle.drn_lexer.specs.Steps.{IsBehindBlanks}
use Rattle.drn_lexer.specs.declared.error.LexError.{LexError}
use Rattle.drn_lexer.specs.declared.error.LexError.TheVariants.{OpenQuote}
use Rattle.drn_lexer.specs.declared.symbol.Symbol.{Symbol}
use Rattle.drn_lexer.specs.declared.symbol.SymbolForm.{SymbolForm}
use Rattle.drn_lexer.specs.declared.word.Word.{Word}
use Rattle.drn_lexer.specs.declared.word.WordForm.{WordForm}
use Rattle.drn_lexer.specs.declared.word.WordForm.TheVariants.{Plain, Quoted, Group}
use Rattle.drn_lexer.proofs.Pieces.{first_size, front_piece, no_front, behind_blanks, first_and_rest}

-- a symbol
pub symbol_found : (text rest : List ℕ) (at to from end : ℕ) (form : SymbolForm) → IsBehindBlanks text at to from rest → IsFirst symbols text at to from end form
    → Some (record { from = from; to = end; form = form }) ≡ first_symbol (at + prefix_len is_blank (slice_range text at to)) (symbols (slice_range text at to))
symbol_found text rest at to from end form r i =
    ap (λ k. let s : Symbol = record { from = from; to = k; form = form } in Some s) (first_size symbols text at to from end form i r.ends)
    ∙ ap (λ k. let s : Symbol = record { from = k; to = k + length (slice_range text from end); form = form } in Some s) r.from_is
    ∙ ap (first_symbol (at + prefix_len is_blank (slice_range text at to))) (sym i.first)

-- a word
pub word_found : (text rest : List ℕ) (at to from end : ℕ) (form : WordForm) → IsBehindBlanks text at to from rest → IsFirst words text at to from end (Ok form)
    → Ok (Some (record { from = from; to = end; form = form })) ≡ first_word (at + prefix_len is_blank (slice_range text at to)) (words (slice_range text at to))
word_found text rest at to from end form r i =
    ap (λ k. let w : Word = record { from = from; to = k; form = form } in let answer : Result (Option Word) LexError = Ok (Some w) in answer) (first_size words text at to from end (Ok form) i r.ends)
    ∙ ap (λ k. let w : Word = record { from = k; to = k + length (slice_range text from end); form = form } in let answer : Result (Option Word) LexError = Ok (Some w) in answer) r.from_is
    ∙ ap (first_word (at + prefix_len is_blank (slice_range text at to))) (sym i.first)

-- a word that is refused
pub word_refused : (text rest : List ℕ) (at to from : ℕ) (fault : LexError) → IsBehindBlanks text at to from rest → 1 ≤ length rest
    → (word_front (get_or rest 0 0) (take (length rest - 1) (drop 1 rest))).1 ≡ Err fault
    → Err fault ≡ first_word (at + prefix_len is_blank (slice_range text at to)) (words (slice_range text at to))
word_refused text rest at to from fault r long f =
    let n = (word_front (get_or rest 0 0) (take (length rest - 1) (drop 1 rest))).0 in
    let same = ap (λ (k : WordKind). let p : ℕ × WordKind = (n, k) in p) (sym f) in
    ap (first_word (at + prefix_len is_blank (slice_range text at to)))
    (sym (front_piece word_front (slice_range text at to) _ _ n (Err fault) (behind_blanks text rest at to from r ∙ first_and_rest rest long) same))

-- ---- open quotes, by the tests of a word's front

abbrev front_by : Bool → Bool → Bool → Bool → ℕ → ℕ → ℕ → ℕ → ℕ × WordKind
front_by quote bracket ends closes n m all k =
    if quote then (if ends then (n, Ok Quoted) else (all, Err OpenQuote)) else (if bracket then (if closes then (m, Ok Group) else (all, Ok Group)) else (k, Ok Plain))

-- which words are refused
record RefusesOpen (kind : WordKind) (is_open : Bool) : Type 0 where
  only : kind ≡ Err OpenQuote → is_open ≡ true
  all : is_open ≡ true → kind ≡ Err OpenQuote
  cause : (fault : LexError) → kind ≡ Err fault → fault ≡ OpenQuote

refuses_by : (quote bracket ends closes : Bool) (n m all k : ℕ) → RefusesOpen (front_by quote bracket ends closes n m all k).1 (quote && not ends)
refuses_by true bracket true closes n m all k = record { only = λ h. cc; all = λ h. cc; cause = λ fault h. cc }
refuses_by true bracket false closes n m all k = record { only = λ h. refl; all = λ h. refl; cause = λ fault h. cc }
refuses_by false true ends true n m all k = record { only = λ h. cc; all = λ h. cc; cause = λ fault h. cc }
refuses_by false true ends false n m all k = record { only = λ h. cc; all = λ h. cc; cause = λ fault h. cc }
refuses_by false false ends closes n m all k = record { only = λ h. cc; all = λ h. cc; cause = λ fault h. cc }

-- what the answer says of it
pub record AnswersOpen (answer : Result (Option Word) LexError) (is_open : Bool) : Type 0 where
  pub quote : (answer ≡ Err OpenQuote → is_open ≡ true) × (is_open ≡ true → answer ≡ Err OpenQuote)
  pub cause : IfErr answer (λ fault. fault ≡ OpenQuote)

answers_by : (from : ℕ) (kind : WordKind) (bytes : List ℕ) (pieces : List (Piece WordKind)) (is_open : Bool) → RefusesOpen kind is_open
    → AnswersOpen (first_word from (record { form = kind; bytes = bytes } ∷ pieces)) is_open
answers_by from (Ok form) bytes pieces is_open r = record { quote = (λ h. cc, λ h. let g = r.all h in cc); cause = tt }
answers_by from (Err fault) bytes pieces is_open r =
    record { quote = (λ h. r.only (let e : fault ≡ OpenQuote = cc in ap Err e), λ h. let e : fault ≡ OpenQuote = r.cause fault refl in ap Err e); cause = r.cause fault refl }

answers_at : (from : ℕ) (line behind : List ℕ) → drop (prefix_len is_blank line) line ≡ behind → AnswersOpen (first_word from (words line)) (begins_open_quote behind)
answers_at from line [] d = rw (no_front word_front line (omega (arith, ap length d))) (record { quote = (λ h. cc, λ h. cc); cause = tt })
answers_at from line (b ∷ tail) d =
    let facts = refuses_by (b == 34) (b == 91) (list_any (λ c. c == 34) tail) (list_any (λ c. c == 93) tail)
    (position_or_len (λ c. c == 34) tail + 1) (position_or_len (λ c. c == 93) tail + 1) (length tail) (position_or_len is_blank tail) in
    let front = word_front b tail in
    subst (λ (ps : List (Piece WordKind)). AnswersOpen (first_word from ps) (begins_open_quote (b ∷ tail))) (sym (front_piece word_front line tail b front.0 front.1 d refl))
    (answers_by from front.1 (b ∷ take front.0 tail) (words (drop front.0 tail)) (begins_open_quote (b ∷ tail)) facts)

-- OpenQuote is answered exactly where the next word begins with a quote that has no end, and no other error is
pub open_quote : (from : ℕ) (line : List ℕ) (answer : Result (Option Word) LexError) → answer ≡ first_word from (words line) → AnswersOpen answer (begins_open_quote (behind is_blank line))
open_quote from line answer e = subst (λ (a : Result (Option Word) LexError). AnswersOpen a (begins_open_quote (behind is_blank line))) (sym e) (answers_at from line (behind is_blank line) refl)
