-- The labels of a state's line, word by word.
use Rattle.std.proofs.Common.{◌≡◌, ◌||◌, ℕ, Bool, true, false, refl, List, [], ◌∷◌, sym, ◌∙◌, ap, Option, Some, None, Err}
use Rattle.std.specs.Prelude.{codes}
use Rattle.std.specs.List.{list_any}
use Rattle.drn_lexer.specs.Cutting.{Piece}
use Rattle.drn_lexer.specs.Words.{WordKind}
use Rattle.drn_lexer.specs.declared.error.LexError.TheVariants as lex
use Rattle.drn_read.specs.States.{is_label}
use Rattle.drn_read.specs.Judging.{state_word_fault, labels_fault}
use Rattle.drn_read.specs.Shown.{BeginsOpen, Carries}
use Rattle.drn_read.specs.declared.error.DrnCause.{DrnCause}
use Rattle.drn_read.specs.declared.error.DrnCause.TheVariants.{OpenQuote}
use Rattle.drn_read.specs.declared.labels.Labels.{Labels}

-- of all words these are left, no fault was found, and the labels so far are these
pub record SoFar (goal : List ℕ) (all left : List (Piece WordKind)) (is_first : Bool) (labels : Labels) : Type 0 where
  pub fault : labels_fault true all ≡ labels_fault is_first left
  pub init : list_any (is_label (codes "init")) all ≡ (labels.init || list_any (is_label (codes "init")) left)
  pub label : list_any (is_label goal) all ≡ (labels.goal || list_any (is_label goal) left)

pub at_start : (goal : List ℕ) (all : List (Piece WordKind)) → SoFar goal all all true (record { init = false; goal = false })
at_start goal all = record { fault = refl; init = refl; label = refl }

or-assoc : (a b c : Bool) → (a || (b || c)) ≡ ((a || b) || c)
or-assoc true b c = refl
or-assoc false b c = refl

or-none : (a : Bool) → (a || false) ≡ a
or-none true = refl
or-none false = refl

-- a word without fault
pub one_more : (goal : List ℕ) (all old new : List (Piece WordKind)) (is_first : Bool) (labels : Labels) (w : Piece WordKind) (a b : Bool)
    → SoFar goal all old is_first labels → old ≡ w ∷ new → state_word_fault is_first w ≡ None
    → a ≡ is_label (codes "init") w → b ≡ is_label goal w
    → SoFar goal all new false (record { init = labels.init || a; goal = labels.goal || b })
one_more goal all old new is_first labels w a b h e f i l = record {
  fault = h.fault ∙ ap (labels_fault is_first) e ∙ ap (λ (o : Option DrnCause). elim o [ Some cause ↦ Some cause | None ↦ labels_fault false new ]) f;
  init = h.init ∙ ap (λ ws. labels.init || list_any (is_label (codes "init")) ws) e ∙ ap (λ x. labels.init || (x || list_any (is_label (codes "init")) new)) (sym i) ∙ or-assoc labels.init a (list_any (is_label (codes "init")) new);
  label = h.label ∙ ap (λ ws. labels.goal || list_any (is_label goal) ws) e ∙ ap (λ x. labels.goal || (x || list_any (is_label goal) new)) (sym l) ∙ or-assoc labels.goal b (list_any (is_label goal) new);
}

-- a word at fault
pub at_fault : (goal : List ℕ) (all old new : List (Piece WordKind)) (is_first : Bool) (labels : Labels) (w : Piece WordKind) (cause : DrnCause)
    → SoFar goal all old is_first labels → old ≡ w ∷ new → state_word_fault is_first w ≡ Some cause → labels_fault true all ≡ Some cause
at_fault goal all old new is_first labels w cause h e f =
    h.fault ∙ ap (labels_fault is_first) e ∙ ap (λ (o : Option DrnCause). elim o [ Some cause ↦ Some cause | None ↦ labels_fault false new ]) f

-- no word is left
pub at_end : (goal : List ℕ) (all old : List (Piece WordKind)) (is_first : Bool) (labels : Labels) → SoFar goal all old is_first labels → old ≡ []
    → (labels_fault true all ≡ None) × Carries goal all labels
at_end goal all old is_first labels h e = (
  h.fault ∙ ap (labels_fault is_first) e,
  record {
    init = sym (h.init ∙ ap (λ ws. labels.init || list_any (is_label (codes "init")) ws) e ∙ or-none labels.init);
    label = sym (h.label ∙ ap (λ ws. labels.goal || list_any (is_label goal) ws) e ∙ or-none labels.goal);
  },
)

open_word : (is_first : Bool) (w : Piece WordKind) (ws : List (Piece WordKind)) → w.form ≡ Err lex.OpenQuote → labels_fault is_first (w ∷ ws) ≡ Some OpenQuote
open_word is_first w ws f = rw f refl

-- a word that begins with a quote that has no end
pub open_quote : (goal : List ℕ) (all old : List (Piece WordKind)) (is_first : Bool) (labels : Labels)
    → SoFar goal all old is_first labels → BeginsOpen old → labels_fault true all ≡ Some OpenQuote
open_quote goal all old is_first labels h g = h.fault ∙ ap (labels_fault is_first) g.are ∙ open_word is_first g.word g.others g.open_quote
