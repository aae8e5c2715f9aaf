-- Where rewards stand in a line of the model. They are tested where the reading reaches them: where nothing is wrong with what stands before them.
use Rattle.std.specs.Prelude.{ℕ, Bool, false, is_none, List, [], ◌∷◌, ◌&&◌, drop, length, codes, Option, Some, None, Ok, Err, if◌then◌else◌}
use Rattle.std.specs.Option.{option_and_then}
use Rattle.lift_model.specs.declared.kind.Kind.{Kind}
use Rattle.drn_lexer.specs.Cutting.{Piece}
use Rattle.drn_lexer.specs.Words.{WordKind}
use Rattle.drn_lexer.specs.declared.word.WordForm.TheVariants as word
use Rattle.drn_read.specs.Sections.{Header}
use Rattle.drn_read.specs.States.{StateText, begins_with}
use Rattle.drn_read.specs.Judging.{is_closed, number_fault, choiceless, choice_fault}
use Rattle.drn_read.specs.Rewards.{rewards_fault}
use Rattle.drn_read.specs.declared.error.DrnCause.{DrnCause}
use Rattle.drn_read.specs.declared.owner.Owner.TheVariants.{State, Action}

-- a group that has its end
abbrev pub is_rewards : Piece WordKind → Bool
is_rewards w = elim w.form [ Ok word.Group ↦ is_closed w | _ ↦ false ]

-- the rewards that these words begin with
abbrev pub rewards_at : List (Piece WordKind) → Option (List ℕ)
rewards_at [] = None
rewards_at (w ∷ ws) = if is_rewards w then Some w.bytes else None

-- those behind `action`, in front of which a name may stand
abbrev pub action_rewards : List (Piece WordKind) → Option (List ℕ)
action_rewards [] = None
action_rewards (w ∷ ws) = elim w.form [ Err fault ↦ None | Ok word.Group ↦ rewards_at (w ∷ ws) | Ok form ↦ rewards_at ws ]

-- the rewards of an action that are reached, by the words behind `action`
abbrev pub reached_in_action : Option Kind → List StateText → List (Piece WordKind) → Option (List ℕ)
reached_in_action kind states ws = if is_none (choice_fault kind states) then action_rewards ws else None

-- the rewards of a state that are reached, by the words behind `state`
abbrev pub reached_in_state : List StateText → List (Piece WordKind) → Option (List ℕ)
reached_in_state states [] = None
reached_in_state states (number ∷ ws) = if is_none (choiceless states) && is_none (number_fault (length states) number) then rewards_at ws else None

-- what is wrong with the rewards that are reached in a line of these words, where there are so many names
abbrev pub words_rewards_fault : ℕ → Header → List StateText → List (Piece WordKind) → Option DrnCause
words_rewards_fault count h states ws =
    if begins_with (codes "state") ws then option_and_then (rewards_fault count State) (reached_in_state states (drop 1 ws))
    else (if begins_with (codes "action") ws then option_and_then (rewards_fault count Action) (reached_in_action h.kind states (drop 1 ws)) else None)
