-- The tests of a line of a model text, by what the lines before it say, in their order from the left, by this project's profile of the DRN format.
use Prim.Native.Char.{code}
use Rattle.std.specs.Prelude.{ℕ, Bool, true, false, not, is_none, is_some, nat_lt, nat_le, List, [], ◌∷◌, ◌++◌, ◌==◌, ◌&&◌, ◌||◌, length, sum_by, codes, Option, Some, None, Ok, Err, if◌then◌else◌}
use Rattle.std.specs.List.{list_any}
use Rattle.std.specs.Option.{option_and_then}
use Rattle.std.specs.Char.{is_ascii_digit}
use Rattle.std.specs.Str.{bytes_eq}
use Rattle.std.specs.Str.Parse.{digits_value}
use Rattle.lift_model.specs.declared.kind.Kind.{Kind}
use Rattle.lift_model.specs.declared.kind.Kind.TheVariants.{Mdp}
use Rattle.lift_model.specs.Valid.{most_states, most_choices, most_transitions, most_parameters, most_name_bytes}
use Rattle.lift_bytes.specs.Bytes.{is_blank, first_passes, behind}
use Rattle.drn_lexer.specs.Cutting.{Piece}
use Rattle.drn_lexer.specs.Lines.{TextLine, content, is_blank_line}
use Rattle.drn_lexer.specs.Words.{WordKind, words}
use Rattle.drn_lexer.specs.declared.word.WordForm.TheVariants as word
use Rattle.drn_read.specs.Faults.{when, first_of, word_fault, fault_of, lexed, reported}
use Rattle.drn_read.specs.Parts.{last, is_empty}
use Rattle.lift_bytes.specs.Bytes.{is_name}
use Rattle.drn_read.specs.Text.{most_digits, is_digits}
use Rattle.drn_read.specs.Sections.{Header, Placeholder, section_of, is_same, is_head, kind_of, type_text, placeholder_name, placeholder_value}
use Rattle.drn_read.specs.States.{StateText, is_transition, target_text, target_of, entry_value}
use Rattle.drn_read.specs.declared.error.DrnCause.{DrnCause}
use Rattle.drn_read.specs.declared.error.DrnCause.TheVariants.{Syntax, UnsupportedType, MissingSection, RepeatedSection, UnknownSection, RepeatedName, StateOrder, ExitRate, Observation, ExtraChoice, NoChoice, RepeatedTarget, LimitStates, LimitChoices, LimitTransitions, LimitPlaces, LimitParameters, LimitName}
use Rattle.drn_read.specs.declared.error.DrnError.{DrnError}
use Rattle.drn_read.specs.declared.section.Phase.TheVariants as phase
use Rattle.drn_read.specs.declared.section.Section.{Section}
use Rattle.drn_read.specs.declared.state.Transition.{Transition}
use Rattle.drn_read.specs.declared.section.Section.TheVariants.{ModelType, Model}

-- at most 65,536 placeholders
abbrev pub most_placeholders : ℕ
most_placeholders = 65536

-- what the lines of a text say: its sections, and the states of its model
pub record Said : Type 0 where
  pub header : Header
  pub states : List StateText

-- ---- lines before the model

-- the section stands there already
abbrev pub has : Section → Header → Bool
has s h = list_any (is_same s) h.seen

-- a line that begins this section
abbrev pub section_fault : Header → List ℕ → Section → Option DrnCause
section_fault h line s = first_of (
    when (has s h) RepeatedSection
    ∷ when (is_same s ModelType && is_none (kind_of (type_text line))) UnsupportedType
    ∷ when (is_same s Model && not (has ModelType h)) MissingSection ∷ [])

-- a line that begins with `@`
abbrev pub head_fault : Header → List ℕ → Option DrnCause
head_fault h line = elim (section_of line) [ Some s ↦ section_fault h line s | None ↦ Some UnknownSection ]

-- a word of the list of parameters, behind these names
abbrev pub name_fault : List (List ℕ) → Piece WordKind → Option DrnCause
name_fault names w = word_fault w (λ form. first_of (
    when (not (is_name w.bytes)) Syntax
    ∷ when (nat_lt most_name_bytes (length w.bytes)) LimitName
    ∷ when (list_any (bytes_eq w.bytes) names) RepeatedName
    ∷ when (nat_le most_parameters (length names)) LimitParameters ∷ []))

-- the list of parameters, whose words are tested one by one
abbrev pub names_fault : List (List ℕ) → List (Piece WordKind) → Option DrnCause
names_fault names [] = None
names_fault names (w ∷ ws) = elim (name_fault names w) [ Some cause ↦ Some cause | None ↦ names_fault (names ++ w.bytes ∷ []) ws ]

-- a number is 1 to 20 digits
abbrev pub count_fault : List ℕ → Option DrnCause
count_fault line = when (not (is_digits line && nat_le (length line) most_digits)) Syntax

-- a placeholder's line has a name
abbrev pub nameless_fault : List ℕ → Option DrnCause
nameless_fault line = when (not (first_passes (λ b. b == code "$") line) || is_empty (placeholder_name line)) Syntax

-- the name of one more placeholder, behind these
abbrev pub new_name_fault : List Placeholder → List ℕ → Option DrnCause
new_name_fault before name = first_of (
    when (nat_lt most_name_bytes (length name)) LimitName
    ∷ when (list_any (λ p. bytes_eq name p.name) before) RepeatedName
    ∷ when (nat_le most_placeholders (length before)) LimitPlaces ∷ [])

-- the name in a placeholder's line
abbrev pub placeholder_name_fault : List Placeholder → List ℕ → Option DrnCause
placeholder_name_fault before line = first_of (nameless_fault line ∷ new_name_fault before (placeholder_name line) ∷ [])

-- a line `$name : value` of a placeholder
abbrev pub placeholder_fault : Header → List ℕ → Option DrnCause
placeholder_fault h line = first_of (placeholder_name_fault h.placeholders line ∷ fault_of (placeholder_value h.names line) ∷ [])

-- a line that may begin a section, or else is so
abbrev pub headed : Header → TextLine → Option DrnCause → Option DrnCause
headed h line fault = if is_head line then head_fault h (content line) else fault

-- a line that may be blank, or else is so
abbrev pub unless_blank : TextLine → Option DrnCause → Option DrnCause
unless_blank line fault = if is_blank_line line then None else fault

-- The first fault of a line before the model. Where a number is due, a line that begins with `@` is no number.
abbrev pub header_fault : Header → TextLine → Option DrnCause
header_fault h line = elim h.phase [
  | phase.NameList ↦ headed h line (names_fault h.names (words (content line)))
  | phase.RewardList ↦ headed h line None
  | phase.StateCount ↦ unless_blank line (count_fault (content line))
  | phase.ChoiceCount ↦ unless_blank line (count_fault (content line))
  | phase.Placeholders ↦ headed h line (unless_blank line (placeholder_fault h (content line)))
  | _ ↦ headed h line (unless_blank line (Some Syntax))
]

-- ---- lines of the model

-- how many choices the states have
abbrev pub choice_count : List StateText → ℕ
choice_count states = sum_by (λ s. length s.choices) states

-- how many transitions the states have
abbrev pub transition_count : List StateText → ℕ
transition_count states = sum_by (λ s. sum_by length s.choices) states

-- the transitions of the last choice of the last state, if that state has a choice
abbrev pub open_choice : List StateText → Option (List Transition)
open_choice states = option_and_then (λ s. last s.choices) (last states)

-- a target begins the first choice of its state, or is one more of the last choice
abbrev pub target_fault : List StateText → ℕ → Option DrnCause
target_fault states target = elim (open_choice states) [
  | None ↦ when (nat_le most_choices (choice_count states)) LimitChoices
  | Some choice ↦ when (list_any (λ t. t.target == target) choice) RepeatedTarget
]

-- the digits of a transition's line, and the colon behind them
abbrev pub target_text_fault : List ℕ → Option DrnCause
target_text_fault line =
    when (nat_lt most_digits (length (target_text line)) || not (first_passes (λ b. b == code ":") (behind is_blank (behind is_ascii_digit line)))) Syntax

-- one more transition, to this target
abbrev pub room_fault : List StateText → ℕ → Option DrnCause
room_fault states target = first_of (target_fault states target ∷ when (nat_le most_transitions (transition_count states)) LimitTransitions ∷ [])

-- a transition's line
abbrev pub transition_fault : Header → List StateText → List ℕ → Option DrnCause
transition_fault h states line = first_of (
    when (is_empty states) Syntax
    ∷ target_text_fault line
    ∷ room_fault states (target_of line)
    ∷ fault_of (entry_value h.names h.placeholders line) ∷ [])

-- a group that has its end
abbrev pub is_closed : Piece WordKind → Bool
is_closed w = list_any (λ b. b == code "]") w.bytes

-- a label, which begins with neither `!` nor `{`
abbrev pub label_fault : List ℕ → Option DrnCause
label_fault label = first_of (when (first_passes (λ b. b == code "!") label) ExitRate ∷ when (first_passes (λ b. b == code "{") label) Observation ∷ [])

-- a word among the labels of a state's line; a group may be the first of them alone
abbrev pub state_word_fault : Bool → Piece WordKind → Option DrnCause
state_word_fault is_first w = word_fault w (λ form. elim form [ word.Group ↦ when (not (is_first && is_closed w)) Syntax | _ ↦ label_fault w.bytes ])

-- the words behind a state's number: an optional group, and then labels
abbrev pub labels_fault : Bool → List (Piece WordKind) → Option DrnCause
labels_fault is_first [] = None
labels_fault is_first (w ∷ ws) = elim (state_word_fault is_first w) [ Some cause ↦ Some cause | None ↦ labels_fault false ws ]

-- the number of a state, where so many stand before it
abbrev pub number_fault : ℕ → Piece WordKind → Option DrnCause
number_fault before w = word_fault w (λ form. first_of (
    when (not (is_digits w.bytes)) Syntax
    ∷ when (not (digits_value 10 w.bytes == before)) StateOrder
    ∷ when (nat_le most_states before) LimitStates ∷ []))

-- the words behind `state`
abbrev pub state_fault : ℕ → List (Piece WordKind) → Option DrnCause
state_fault before [] = Some Syntax
state_fault before (w ∷ ws) = elim (number_fault before w) [ Some cause ↦ Some cause | None ↦ labels_fault true ws ]

-- the last state has no choice; its own line is told
abbrev pub choiceless : List StateText → Option DrnError
choiceless states = option_and_then (λ s. if is_empty s.choices then Some (record { line = s.line; cause = NoChoice }) else None) (last states)

-- nothing more stands on the line
abbrev pub more_fault : List (Piece WordKind) → Option DrnCause
more_fault [] = None
more_fault (w ∷ ws) = word_fault w (λ form. Some Syntax)

-- an optional group
abbrev pub group_fault : List (Piece WordKind) → Option DrnCause
group_fault [] = None
group_fault (w ∷ ws) = word_fault w (λ form. elim form [ word.Group ↦ if is_closed w then more_fault ws else Some Syntax | _ ↦ Some Syntax ])

-- the words behind `action`: an optional name, and then an optional group
abbrev pub name_and_group_fault : List (Piece WordKind) → Option DrnCause
name_and_group_fault [] = None
name_and_group_fault (w ∷ ws) = word_fault w (λ form. elim form [ word.Group ↦ group_fault (w ∷ ws) | _ ↦ group_fault ws ])

-- a state of a chain has one choice, and so has one of a model without type
abbrev pub is_chain : Option Kind → Bool
is_chain kind = elim kind [ Some Mdp ↦ false | _ ↦ true ]

-- one more choice
abbrev pub choice_fault : Option Kind → List StateText → Option DrnCause
choice_fault kind states = first_of (
    when (is_empty states) Syntax
    ∷ when (is_chain kind && is_some (open_choice states)) ExtraChoice
    ∷ when (nat_le most_choices (choice_count states)) LimitChoices ∷ [])

-- an action's line
abbrev pub action_fault : Header → List StateText → List (Piece WordKind) → Option DrnCause
action_fault h states ws = first_of (choice_fault h.kind states ∷ name_and_group_fault ws ∷ [])

-- a line of the model by its words, where it is no transition
abbrev pub words_fault : Header → List StateText → TextLine → List (Piece WordKind) → Option DrnError
words_fault h states line [] = reported line.number (Some Syntax)
words_fault h states line (w ∷ ws) = elim w.form [
  | Err fault ↦ reported line.number (Some (lexed fault))
  | Ok _ ↦
      if bytes_eq w.bytes (codes "state") then first_of (choiceless states ∷ reported line.number (state_fault (length states) ws) ∷ [])
      else (if bytes_eq w.bytes (codes "action") then reported line.number (action_fault h states ws) else reported line.number (Some Syntax))
]

-- the first fault of a line of the model
abbrev pub model_fault : Header → List StateText → TextLine → Option DrnError
model_fault h states line = if is_head line then reported line.number (Some UnknownSection)
    else (if is_blank_line line then None
    else (if is_transition (content line) then reported line.number (transition_fault h states (content line))
    else words_fault h states line (words (content line))))

-- the first fault of a line that is no comment, by what the lines before it say
abbrev pub line_fault : Said → TextLine → Option DrnError
line_fault said line = elim said.header.phase [ phase.Model ↦ model_fault said.header said.states line | _ ↦ reported line.number (header_fault said.header line) ]
