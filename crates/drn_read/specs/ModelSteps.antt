-- What the reader of the model's lines keeps, in steps. No public clause rests on it.
use Rattle.std.specs.Prelude.{◌≡◌, ◌==◌, ◌<◌, ◌≤◌, ◌++◌, ℕ, if◌then◌else◌, List, [], ◌∷◌, drop, length, codes, unwrap_or, Some, None, Result, Ok, Err}
use Rattle.std.specs.List.{list_any}
use Rattle.std.specs.Char.{is_ascii_digit}
use Rattle.std.specs.Ordering.{nat_cmp}
use Rattle.std.specs.BTreeSet.{BTreeSet, contains}
use Rattle.lift_bytes.specs.Bytes.{behind}
use Rattle.lift_model.specs.Valid.{most_states, most_choices, most_transitions}
use Rattle.drn_lexer.specs.Cutting.{Piece}
use Rattle.drn_lexer.specs.Words.{WordKind}
use Rattle.drn_expr.specs.RatPolys.{OverOne}
use Rattle.drn_read.specs.Text.{behind_colon}
use Rattle.drn_read.specs.States.{StateText, begins_with, is_label, target_of}
use Rattle.drn_read.specs.Judging.{choice_count, transition_count, open_choice, target_text_fault}
use Rattle.drn_read.specs.Keeping.{on_last, with_choice}
use Rattle.drn_read.specs.Shown.{rest}
use Rattle.drn_read.specs.declared.front.TransitionFront.{TransitionFront}
use Rattle.drn_read.specs.declared.error.DrnCause.{DrnCause}
use Rattle.drn_read.specs.declared.error.DrnError.{DrnError}
use Rattle.drn_read.specs.declared.state.Transition.{Transition}

-- the transitions of the last choice of the last state, none where that state has no choice
abbrev pub open_row : List StateText → List Transition
open_row states = unwrap_or (open_choice states) []

-- so many targets at most are gone through one by one
abbrev pub few_targets : ℕ
few_targets = 16

-- where there are more, they are those of a set
abbrev pub IsInSet : List ℕ → BTreeSet ℕ → Type 0
IsInSet targets set = few_targets < length targets → (q : ℕ) → contains nat_cmp set q ≡ list_any (λ t. t == q) targets

-- What is kept beside the states: how many choices and transitions they have, and the targets of the last choice. All are within their limits.
pub record IsKept (states : List StateText) (choices transitions : ℕ) (targets : List ℕ) : Type 0 where
  pub choices_are : choices ≡ choice_count states
  pub transitions_are : transitions ≡ transition_count states
  pub few_states : length states ≤ most_states
  pub few_choices : choices ≤ most_choices
  pub few_transitions : transitions ≤ most_transitions
  pub targets_are : (target : ℕ) → list_any (λ t. t == target) targets ≡ list_any (λ t. t.target == target) (open_row states)

-- the target of a transition's line, and what is left behind the colon
pub record IsTransitionFront (line : List ℕ) (front : TransitionFront) : Type 0 where
  pub fault : target_text_fault line ≡ None
  pub target : front.target ≡ target_of line
  pub value : behind_colon (behind is_ascii_digit line) ≡ Some (rest front.value)

-- a result whose fault is told of the line of this number
abbrev pub on_line : {A : Type 0} → ℕ → Result A DrnCause → Result A DrnError
on_line number (Ok x) = Ok x
on_line number (Err cause) = Err (record { line = number; cause = cause })

-- a transition of the text, if it has a value
abbrev pub transition_at : ℕ → ℕ → Result OverOne DrnCause → List Transition
transition_at number target value = elim value [ Ok v ↦ record { line = number; target = target; value = v } ∷ [] | Err cause ↦ [] ]

-- a state of this line, with the words behind its number as labels and no choice yet
abbrev pub new_state : List ℕ → ℕ → List (Piece WordKind) → StateText
new_state label number ws = record {
  line = number;
  init = list_any (is_label (codes "init")) ws;
  goal = list_any (is_label label) ws;
  choices = [];
}

-- the states behind a line of these words, which begins a state or a choice
abbrev pub words_with : List ℕ → List StateText → ℕ → List (Piece WordKind) → List StateText
words_with label states number ws = if begins_with (codes "state") ws then states ++ new_state label number (drop 2 ws) ∷ [] else on_last with_choice states
