-- The first word of a line. Where it begins with a quote that has no end, it is no keyword, and no other word stands behind it.
use Rattle.std.proofs.Common.{◌≡◌, ◌==◌, ℕ, zero, Bool, true, false, refl, sym, ◌∙◌, ap, List, [], ◌∷◌, length, take, drop, Err}
use Rattle.std.specs.List.{list_any}
use Rattle.std.specs.Str.{bytes_eq}
use Rattle.std.proofs.lemmas.Bool.{false_from_ne_true, both_ways}
use Rattle.std.proofs.lemmas.Slice.Eq.{bytes_eq-Decides}
use Rattle.lift_bytes.specs.Bytes.{is_blank, first_passes}
use Rattle.drn_lexer.specs.Cutting.{Piece, pieces_behind}
use Rattle.drn_lexer.specs.Words.{WordKind, words, word_front}
use Rattle.drn_lexer.specs.declared.error.LexError.{LexError}
use Rattle.drn_lexer.specs.declared.error.LexError.TheVariants.{OpenQuote}
use Rattle.drn_read.specs.States.{begins_with}
use Rattle.drn_read.specs.Shown.{BeginsOpen}

record BeginsQuote (w : Piece WordKind) (ws : List (Piece WordKind)) : Type 0 where
  pub quote : first_passes (λ b. b == 34) w.bytes ≡ true
  pub lone : ws ≡ []

nothing_behind : (tail : List ℕ) → pieces_behind word_front (length tail) tail ≡ []
unfolding pieces_behind
nothing_behind [] = refl
nothing_behind (b ∷ tail) = nothing_behind tail

-- a word that begins with this byte, by what it is
by_kind : (b : ℕ) (tail : List ℕ) (w : Piece WordKind) (ws : List (Piece WordKind)) (fault : LexError) (quote group closed ended : Bool)
    → (b == 34) ≡ quote → (b == 91) ≡ group → list_any (λ c. c == 34) tail ≡ closed → list_any (λ c. c == 93) tail ≡ ended
    → record { form = (word_front b tail).1; bytes = b ∷ take (word_front b tail).0 tail } ∷ pieces_behind word_front (word_front b tail).0 tail ≡ w ∷ ws
    → w.form ≡ Err fault → BeginsQuote w ws
by_kind b tail w ws fault true group true ended q g o p e f = let k = rw (word_front, q, o) at e in cc
by_kind b tail w ws fault true group false ended q g o p e f =
    let k = rw (word_front, q, o) at e in
    record { quote = by_quote k q; lone = by_lone k }
  where
    by_quote : record { form = Err OpenQuote; bytes = b ∷ take (length tail) tail } ∷ pieces_behind word_front (length tail) tail ≡ w ∷ ws → (b == 34) ≡ true → first_passes (λ b. b == 34) w.bytes ≡ true
    by_quote k q = cc

    by_lone : record { form = Err OpenQuote; bytes = b ∷ take (length tail) tail } ∷ pieces_behind word_front (length tail) tail ≡ w ∷ ws → ws ≡ []
    by_lone k = let rest : pieces_behind word_front (length tail) tail ≡ ws = cc in sym rest ∙ nothing_behind tail
by_kind b tail w ws fault false true closed true q g o p e f = let k = rw (word_front, q, g, p) at e in cc
by_kind b tail w ws fault false true closed false q g o p e f = let k = rw (word_front, q, g, p) at e in cc
by_kind b tail w ws fault false false closed ended q g o p e f = let k = rw (word_front, q, g) at e in cc

open_word : (line : List ℕ) (w : Piece WordKind) (ws : List (Piece WordKind)) (fault : LexError) → words line ≡ w ∷ ws → w.form ≡ Err fault → BeginsQuote w ws
unfolding pieces_behind
open_word [] w ws fault e f = cc
open_word (b ∷ tail) w ws fault e f = by_blank (is_blank b) e (λ k. open_word tail w ws fault k f)
  where
    by_blank : (x : Bool)
        → (elim x as (λ x. List (Piece WordKind)) [ true ↦ pieces_behind word_front zero tail | false ↦ record { form = (word_front b tail).1; bytes = b ∷ take (word_front b tail).0 tail } ∷ pieces_behind word_front (word_front b tail).0 tail ]) ≡ w ∷ ws
        → (words tail ≡ w ∷ ws → BeginsQuote w ws) → BeginsQuote w ws
    by_blank true e more = more e
    by_blank false e more = by_kind b tail w ws fault (b == 34) (b == 91) (list_any (λ c. c == 34) tail) (list_any (λ c. c == 93) tail) refl refl refl refl e f

differ : (name bytes : List ℕ) → first_passes (λ b. b == 34) name ≡ false → first_passes (λ b. b == 34) bytes ≡ true → bytes_eq bytes name ≡ false
differ name bytes e f = false_from_ne_true (bytes_eq bytes name) (λ t. let same = (bytes_eq-Decides bytes name).0 t in both_ways (first_passes (λ b. b == 34) bytes) (ap (first_passes (λ b. b == 34)) same ∙ e) f)

-- it is no keyword
pub no_keyword : (line name : List ℕ) → BeginsOpen (words line) → first_passes (λ b. b == 34) name ≡ false → begins_with name (words line) ≡ false
no_keyword line name h e = ap (begins_with name) h.are ∙ differ name h.word.bytes e (open_word line h.word h.others _ h.are h.open_quote).quote

-- and it is the last word
pub last_word : (line : List ℕ) → BeginsOpen (words line) → drop 1 (words line) ≡ []
last_word line h = ap (drop 1) h.are ∙ (open_word line h.word h.others _ h.are h.open_quote).lone
