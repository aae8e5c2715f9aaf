-- The list of rewards' names, word by word.
use Rattle.std.proofs.Common.{◌≡◌, ℕ, refl, List, [], ◌∷◌, ◌++◌, map, sym, ◌∙◌, ap, append_assoc, Option, Some, None, Err}
use Rattle.std.proofs.lemmas.List.{append-nil}
use Rattle.drn_lexer.specs.Cutting.{Piece}
use Rattle.drn_lexer.specs.Words.{WordKind}
use Rattle.drn_lexer.specs.declared.error.LexError.TheVariants as lex
use Rattle.drn_read.specs.Rewards.{reward_name, reward_name_fault, reward_names_fault}
use Rattle.drn_read.specs.Costs.{Rewards}
use Rattle.drn_read.specs.CostKeeping.{with_reward_names}
use Rattle.drn_read.specs.Shown.{BeginsOpen}
use Rattle.drn_read.specs.declared.error.DrnCause.{DrnCause}
use Rattle.drn_read.specs.declared.error.DrnCause.TheVariants.{OpenQuote}

-- of all words these are left, no fault was found, and this is what is said of rewards so far
pub record RewardsSoFar (before now : Rewards) (all left : List (Piece WordKind)) : Type 0 where
  pub fault : reward_names_fault all ≡ reward_names_fault left
  pub names : with_reward_names before all ≡ with_reward_names now left

pub no_word_yet : (before : Rewards) (all : List (Piece WordKind)) → RewardsSoFar before before all all
no_word_yet before all = record { fault = refl; names = refl }

-- a word without fault
pub one_more_name : (before now next : Rewards) (all old new : List (Piece WordKind)) (w : Piece WordKind)
    → RewardsSoFar before now all old → old ≡ w ∷ new → reward_name_fault w ≡ None → next ≡ record now { names = now.names ++ reward_name w ∷ [] }
    → RewardsSoFar before next all new
one_more_name before now next all old new w h e f n = record {
  fault = h.fault ∙ ap reward_names_fault e ∙ ap (λ (o : Option DrnCause). elim o [ Some cause ↦ Some cause | None ↦ reward_names_fault new ]) f;
  names = h.names ∙ ap (with_reward_names now) e ∙ ap (λ (ns : List (List ℕ)). record now { names = ns }) (sym (append_assoc now.names (reward_name w ∷ []) (map reward_name new))) ∙ ap (λ (r : Rewards). with_reward_names r new) (sym n);
}

-- a word at fault
pub name_at_fault : (before now : Rewards) (all old new : List (Piece WordKind)) (w : Piece WordKind) (cause : DrnCause)
    → RewardsSoFar before now all old → old ≡ w ∷ new → reward_name_fault w ≡ Some cause → reward_names_fault all ≡ Some cause
name_at_fault before now all old new w cause h e f =
    h.fault ∙ ap reward_names_fault e ∙ ap (λ (o : Option DrnCause). elim o [ Some cause ↦ Some cause | None ↦ reward_names_fault new ]) f

-- no word is left
pub no_more_names : (before now : Rewards) (all old : List (Piece WordKind)) → RewardsSoFar before now all old → old ≡ [] → (reward_names_fault all ≡ None) × (now ≡ with_reward_names before all)
no_more_names before now all old h e =
    (h.fault ∙ ap reward_names_fault e, sym (h.names ∙ ap (with_reward_names now) e ∙ ap (λ (ns : List (List ℕ)). record now { names = ns }) (append-nil now.names)))

open_word : (w : Piece WordKind) (ws : List (Piece WordKind)) → w.form ≡ Err lex.OpenQuote → reward_names_fault (w ∷ ws) ≡ Some OpenQuote
open_word w ws f = rw f refl

-- a word that begins with a quote that has no end
pub open_name : (before now : Rewards) (all old : List (Piece WordKind)) → RewardsSoFar before now all old → BeginsOpen old → reward_names_fault all ≡ Some OpenQuote
open_name before now all old h g = h.fault ∙ ap reward_names_fault g.are ∙ open_word g.word g.others g.open_quote
