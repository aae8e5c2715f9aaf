-- The list of parameters, word by word.
use Rattle.std.proofs.Common.{◌≡◌, ◌≤◌, ℕ, refl, List, [], ◌∷◌, ◌++◌, length, map, sym, ◌∙◌, ap, append_assoc, Option, Some, None, Err}
use Rattle.std.proofs.lemmas.List.{append-nil}
use Rattle.drn_lexer.specs.Cutting.{Piece}
use Rattle.drn_lexer.specs.Words.{WordKind}
use Rattle.drn_lexer.specs.declared.error.LexError.TheVariants as lex
use Rattle.drn_read.specs.Judging.{name_fault, names_fault}
use Rattle.drn_read.specs.Shown.{BeginsOpen}
use Rattle.drn_read.specs.declared.error.DrnCause.{DrnCause}
use Rattle.drn_read.specs.declared.error.DrnCause.TheVariants.{OpenQuote}

abbrev pub bytes_of : List (Piece WordKind) → List (List ℕ)
bytes_of words = map (λ word. word.bytes) words

-- of all words these are left, no fault was found, and these are the names so far
pub record NamedSoFar (before now : List (List ℕ)) (all left : List (Piece WordKind)) : Type 0 where
  pub fault : names_fault before all ≡ names_fault now left
  pub names : before ++ bytes_of all ≡ now ++ bytes_of left
  pub few : length now ≤ 16

pub no_word_yet : (before : List (List ℕ)) (all : List (Piece WordKind)) → length before ≤ 16 → NamedSoFar before before all all
no_word_yet before all few = record { fault = refl; names = refl; few = few }

-- a word without fault
pub one_more_name : (before now next : List (List ℕ)) (all old new : List (Piece WordKind)) (w : Piece WordKind)
    → NamedSoFar before now all old → old ≡ w ∷ new → name_fault now w ≡ None → next ≡ now ++ w.bytes ∷ [] → length next ≤ 16
    → NamedSoFar before next all new
one_more_name before now next all old new w h e f n few = record {
  fault = h.fault ∙ ap (names_fault now) e ∙ ap (λ (o : Option DrnCause). elim o [ Some cause ↦ Some cause | None ↦ names_fault (now ++ w.bytes ∷ []) new ]) f ∙ ap (λ (ns : List (List ℕ)). names_fault ns new) (sym n);
  names = h.names ∙ ap (λ ws. now ++ bytes_of ws) e ∙ sym (append_assoc now (w.bytes ∷ []) (bytes_of new)) ∙ ap (λ (ns : List (List ℕ)). ns ++ bytes_of new) (sym n);
  few = few;
}

-- a word at fault
pub name_at_fault : (before now : List (List ℕ)) (all old new : List (Piece WordKind)) (w : Piece WordKind) (cause : DrnCause)
    → NamedSoFar before now all old → old ≡ w ∷ new → name_fault now w ≡ Some cause → names_fault before all ≡ Some cause
name_at_fault before now all old new w cause h e f =
    h.fault ∙ ap (names_fault now) e ∙ ap (λ (o : Option DrnCause). elim o [ Some cause ↦ Some cause | None ↦ names_fault (now ++ w.bytes ∷ []) new ]) f

-- no word is left
pub no_more_names : (before now : List (List ℕ)) (all old : List (Piece WordKind)) → NamedSoFar before now all old → old ≡ []
    → (names_fault before all ≡ None) × (now ≡ before ++ bytes_of all)
no_more_names before now all old h e =
    (h.fault ∙ ap (names_fault now) e, sym (h.names ∙ ap (λ ws. now ++ bytes_of ws) e ∙ append-nil now))

open_word : (names : List (List ℕ)) (w : Piece WordKind) (ws : List (Piece WordKind)) → w.form ≡ Err lex.OpenQuote → names_fault names (w ∷ ws) ≡ Some OpenQuote
open_word names w ws f = rw f refl

-- a word that begins with a quote that has no end
pub open_name : (before now : List (List ℕ)) (all old : List (Piece WordKind)) → NamedSoFar before now all old → BeginsOpen old → names_fault before all ≡ Some OpenQuote
open_name before now all old h g = h.fault ∙ ap (names_fault now) g.are ∙ open_word now g.word g.others g.open_quote
