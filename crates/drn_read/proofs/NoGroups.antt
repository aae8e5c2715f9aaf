-- A line without a bracket holds no rewards.
use Rattle.std.proofs.Common.{◌≡◌, ◌==◌, ◌||◌, ℕ, zero, suc, Bool, true, false, cond, refl, ◌∙◌, ap, List, [], ◌∷◌, take, drop, Option, Some, None, Ok, Err}
use Rattle.std.specs.List.{list_any}
use Rattle.std.specs.Option.{option_and_then}
use Rattle.std.proofs.lemmas.Bool.{or_parts}
use Rattle.lift_bytes.specs.Bytes.{is_blank}
use Rattle.lift_model.specs.declared.kind.Kind.{Kind}
use Rattle.drn_lexer.specs.Cutting.{Piece, pieces_behind}
use Rattle.drn_lexer.specs.Words.{WordKind, words, word_front}
use Rattle.drn_lexer.specs.declared.word.WordForm.TheVariants as word
use Rattle.drn_read.specs.Sections.{Header}
use Rattle.drn_read.specs.States.{StateText}
use Rattle.drn_read.specs.Rewards.{rewards_fault}
use Rattle.drn_read.specs.RewardLines.{is_rewards, rewards_at, action_rewards, reached_in_action, reached_in_state, words_rewards_fault}
use Rattle.drn_read.specs.declared.owner.Owner.TheVariants.{State, Action}
use Rattle.drn_read.specs.declared.error.DrnCause.{DrnCause}

-- a word that begins with no bracket is none
plain_word : (b : ℕ) (tail : List ℕ) (quote closed : Bool) → (b == 34) ≡ quote → (b == 91) ≡ false → list_any (λ c. c == 34) tail ≡ closed
    → is_rewards (record { form = (word_front b tail).1; bytes = b ∷ take (word_front b tail).0 tail }) ≡ false
plain_word b tail true true q g o = rw (word_front, q, o) refl
plain_word b tail true false q g o = rw (word_front, q, o) refl
plain_word b tail false closed q g o = rw (word_front, q, g) refl

one_word : (b : ℕ) (tail : List ℕ) (blank : Bool) → (b == 91) ≡ false → ((n : ℕ) → list_any is_rewards (pieces_behind word_front n tail) ≡ false)
    → list_any is_rewards (elim blank as (λ x. List (Piece WordKind)) [ true ↦ pieces_behind word_front zero tail | false ↦ record { form = (word_front b tail).1; bytes = b ∷ take (word_front b tail).0 tail } ∷ pieces_behind word_front (word_front b tail).0 tail ]) ≡ false
one_word b tail true g more = more zero
one_word b tail false g more =
    ap (λ (x : Bool). x || list_any is_rewards (pieces_behind word_front (word_front b tail).0 tail)) (plain_word b tail (b == 34) (list_any (λ c. c == 34) tail) refl g refl)
    ∙ more (word_front b tail).0

no_rewards : (text : List ℕ) → list_any (λ b. b == 91) text ≡ false → (n : ℕ) → list_any is_rewards (pieces_behind word_front n text) ≡ false
unfolding pieces_behind
no_rewards [] e n = refl
no_rewards (b ∷ tail) e zero = let parts = or_parts (b == 91) (list_any (λ b. b == 91) tail) e in one_word b tail (is_blank b) parts.0 (no_rewards tail parts.1)
no_rewards (b ∷ tail) e (suc n) = let parts = or_parts (b == 91) (list_any (λ b. b == 91) tail) e in no_rewards tail parts.1 n

tail_none : (ws : List (Piece WordKind)) → list_any is_rewards ws ≡ false → list_any is_rewards (drop 1 ws) ≡ false
tail_none [] e = refl
tail_none (w ∷ ws) e = (or_parts (is_rewards w) (list_any is_rewards ws) e).1

none_at : (ws : List (Piece WordKind)) → list_any is_rewards ws ≡ false → rewards_at ws ≡ None
none_at [] e = refl
none_at (w ∷ ws) e = ap (λ (b : Bool). cond b (Some w.bytes) None) (or_parts (is_rewards w) (list_any is_rewards ws) e).0

chosen : {A : Type 0} (b : Bool) (x : Option A) → x ≡ None → cond b x None ≡ None
chosen true x e = e
chosen false x e = refl

none_in_state : (states : List StateText) (ws : List (Piece WordKind)) → list_any is_rewards ws ≡ false → reached_in_state states ws ≡ None
none_in_state states [] e = refl
none_in_state states (number ∷ ws) e = chosen _ (rewards_at ws) (none_at ws (tail_none (number ∷ ws) e))

none_behind_action : (ws : List (Piece WordKind)) → list_any is_rewards ws ≡ false → action_rewards ws ≡ None
none_behind_action [] e = refl
none_behind_action (w ∷ ws) e = by_form w.form (none_at (w ∷ ws) e) (none_at ws (tail_none (w ∷ ws) e))
  where
    by_form : (form : WordKind) → rewards_at (w ∷ ws) ≡ None → rewards_at ws ≡ None
        → (elim form as (λ f. Option (List ℕ)) [ Err fault ↦ None | Ok word.Group ↦ rewards_at (w ∷ ws) | Ok form ↦ rewards_at ws ]) ≡ None
    by_form (Err fault) here behind = refl
    by_form (Ok word.Group) here behind = here
    by_form (Ok word.Plain) here behind = behind
    by_form (Ok word.Quoted) here behind = behind

none_in_action : (kind : Option Kind) (states : List StateText) (ws : List (Piece WordKind)) → list_any is_rewards ws ≡ false → reached_in_action kind states ws ≡ None
none_in_action kind states ws e = chosen _ (action_rewards ws) (none_behind_action ws e)

either_none : (a b : Bool) (x y : Option DrnCause) → x ≡ None → y ≡ None → cond a x (cond b y None) ≡ None
either_none true b x y e f = e
either_none false true x y e f = f
either_none false false x y e f = refl

pub no_bracket : (count : ℕ) (h : Header) (states : List StateText) (text : List ℕ) → list_any (λ b. b == 91) text ≡ false → words_rewards_fault count h states (words text) ≡ None
no_bracket count h states text e =
    let behind = tail_none (words text) (no_rewards text e 0) in
    either_none _ _ _ _
    (ap (option_and_then (rewards_fault count State)) (none_in_state states (drop 1 (words text)) behind))
    (ap (option_and_then (rewards_fault count Action)) (none_in_action h.kind states (drop 1 (words text)) behind))
