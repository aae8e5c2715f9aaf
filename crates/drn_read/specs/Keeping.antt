-- How what the lines of a text say grows with one more line. It is what a reader keeps from line to line, and a law says that it is what the text says.
use Rattle.std.specs.Prelude.{ℕ, List, [], ◌∷◌, ◌++◌, map, Some, None, if◌then◌else◌}
use Rattle.std.specs.Str.Parse.{digits_value}
use Rattle.drn_lexer.specs.Lines.{TextLine, content, is_blank_line}
use Rattle.drn_lexer.specs.Words.{words}
use Rattle.drn_read.specs.Sections.{Header, section_of, is_same, is_head, kind_of, type_text, phase_in, placeholder}
use Rattle.drn_read.specs.States.{StateText, model_line, is_state, is_action, state, transition}
use Rattle.drn_read.specs.Judging.{Said}
use Rattle.drn_read.specs.declared.section.Phase.TheVariants as phase
use Rattle.drn_read.specs.declared.section.Section.{Section}
use Rattle.drn_read.specs.declared.state.Transition.{Transition}
use Rattle.drn_read.specs.declared.section.Section.TheVariants.{ModelType}

-- ---- before the model

-- behind a line that begins this section
abbrev pub with_section : List ℕ → Header → Section → Header
with_section line h s = record h { phase = phase_in s []; seen = h.seen ++ s ∷ []; kind = if is_same s ModelType then kind_of (type_text line) else h.kind }

-- behind a line that begins with `@`
abbrev pub with_head : Header → List ℕ → Header
with_head h line = elim (section_of line) [ Some s ↦ with_section line h s | None ↦ h ]

-- behind a line that may begin a section, or else is so
abbrev pub headed_with : Header → TextLine → Header → Header
headed_with h line after = if is_head line then with_head h (content line) else after

-- behind the list of parameters
abbrev pub with_names : Header → List ℕ → Header
with_names h line = record h { phase = phase.Sections; names = h.names ++ map (λ word. word.bytes) (words line) }

-- behind the number of states
abbrev pub with_state_count : Header → List ℕ → Header
with_state_count h line = record h { phase = phase.Sections; state_count = Some (digits_value 10 line) }

-- behind the number of choices
abbrev pub with_choice_count : Header → List ℕ → Header
with_choice_count h line = record h { phase = phase.Sections; choice_count = Some (digits_value 10 line) }

-- behind a placeholder's line
abbrev pub with_placeholder : Header → List ℕ → Header
with_placeholder h line = record h { placeholders = h.placeholders ++ placeholder h.names line }

-- behind a line that may be blank, which changes nothing
abbrev pub unless_blank_with : Header → TextLine → Header → Header
unless_blank_with h line after = if is_blank_line line then h else after

-- behind a line without fault before the model
abbrev pub header_with : Header → TextLine → Header
header_with h line = elim h.phase [
  | phase.NameList ↦ headed_with h line (with_names h (content line))
  | phase.RewardList ↦ headed_with h line (record h { phase = phase.Sections })
  | phase.StateCount ↦ unless_blank_with h line (with_state_count h (content line))
  | phase.ChoiceCount ↦ unless_blank_with h line (with_choice_count h (content line))
  | phase.Placeholders ↦ headed_with h line (unless_blank_with h line (with_placeholder h (content line)))
  | _ ↦ headed_with h line h
]

-- ---- in the model

-- the last one is changed
abbrev pub on_last : {A : Type 0} → (A → A) → List A → List A
on_last change [] = []
on_last change (x ∷ []) = change x ∷ []
on_last change (x ∷ y ∷ xs) = x ∷ on_last change (y ∷ xs)

-- one more choice
abbrev pub with_choice : StateText → StateText
with_choice s = record s { choices = s.choices ++ [] ∷ [] }

-- one more transition of the last choice, which is a first one where there is none
abbrev pub with_transitions : List Transition → StateText → StateText
with_transitions more s = record s { choices = elim s.choices [ [] ↦ more ∷ [] | choice ∷ choices ↦ on_last (λ row. row ++ more) (choice ∷ choices) ] }

-- behind a line without fault of the model
abbrev pub states_with : List ℕ → Header → List StateText → TextLine → List StateText
states_with label h states line =
    let l = model_line h.names h.placeholders line in
    if is_blank_line line then states
    else (if is_state l then states ++ state label (record { head = l; body = [] }) ∷ []
    else (if is_action l then on_last with_choice states
    else on_last (with_transitions (transition l)) states))

-- behind a line without fault that is no comment
abbrev pub with_line : List ℕ → Said → TextLine → Said
with_line label said line = elim said.header.phase [
  | phase.Model ↦ record said { states = states_with label said.header said.states line }
  | _ ↦ record said { header = header_with said.header line }
]
