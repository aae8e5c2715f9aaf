-- The model in a model text: states, choices and transitions, by this project's profile of the DRN format.
use Rattle.std.specs.Prelude.{ℕ, Bool, false, List, [], ◌∷◌, take_while, drop, map, find, codes, Option, Some, None, Result, Ok, Err, if◌then◌else◌}
use Rattle.std.specs.List.{list_any, flat_map}
use Rattle.std.specs.Char.{is_ascii_digit}
use Rattle.std.specs.Str.{bytes_eq}
use Rattle.std.specs.Str.Parse.{digits_value}
use Rattle.lift_bytes.specs.Bytes.{first_passes, behind}
use Rattle.drn_lexer.specs.Cutting.{Piece}
use Rattle.drn_lexer.specs.Lines.{TextLine, content}
use Rattle.drn_lexer.specs.Words.{WordKind, words, unquoted}
use Rattle.drn_lexer.specs.Symbols.{symbols}
use Rattle.drn_lexer.specs.declared.word.WordForm.TheVariants as word
use Rattle.drn_lexer.specs.declared.symbol.SymbolForm.{SymbolForm}
use Rattle.drn_lexer.specs.declared.symbol.SymbolForm.TheVariants as symbol
use Rattle.drn_expr.specs.RatPolys.{OverOne}
use Rattle.drn_read.specs.Parts.{Part, parts, is_empty}
use Rattle.drn_read.specs.Text.{behind_colon, value_of}
use Rattle.drn_read.specs.Sections.{Placeholder, names, placeholders, said_in, gather}
use Rattle.drn_read.specs.declared.error.DrnCause.{DrnCause}
use Rattle.drn_read.specs.declared.error.DrnCause.TheVariants.{Syntax, UnknownPlace}
use Rattle.drn_read.specs.declared.section.Section.TheVariants.{Model}
use Rattle.drn_read.specs.declared.state.Transition.{Transition}

-- ---- a transition's line, `TARGET : VALUE`

-- a line whose first byte is a digit is a transition
abbrev pub is_transition : List ℕ → Bool
is_transition line = first_passes is_ascii_digit line

-- the digits that a transition's line begins with: its target
abbrev pub target_text : List ℕ → List ℕ
target_text line = take_while is_ascii_digit line

-- the number of the target
abbrev pub target_of : List ℕ → ℕ
target_of line = digits_value 10 (target_text line)

-- the name where these symbols are one `$name` and nothing else
abbrev pub lone_name : List (Piece SymbolForm) → Option (List ℕ)
lone_name (only ∷ []) = elim only.form [ symbol.Dollar ↦ Some (drop 1 only.bytes) | _ ↦ None ]
lone_name _ = None

-- the value of a placeholder by its name
abbrev pub value_of_placeholder : List Placeholder → List ℕ → Result OverOne DrnCause
value_of_placeholder defined name = elim (find (λ p. bytes_eq name p.name) defined) [ Some p ↦ Ok p.value | None ↦ Err UnknownPlace ]

-- a text that is one `$name` and nothing else is the value of that placeholder, and any other is a value by itself
abbrev pub named_value : List (List ℕ) → List Placeholder → List ℕ → Result OverOne DrnCause
named_value names defined text = elim (lone_name (symbols text)) [ Some name ↦ value_of_placeholder defined name | None ↦ value_of names text ]

-- the value of a transition's line, which stands behind a colon
abbrev pub entry_value : List (List ℕ) → List Placeholder → List ℕ → Result OverOne DrnCause
entry_value names defined line = elim (behind_colon (behind is_ascii_digit line)) [ Some value ↦ named_value names defined value | None ↦ Err Syntax ]

-- ---- the lines of a model, cut into states and choices

-- a line of the model, and its value if it is a transition
pub record ModelLine : Type 0 where
  pub line : TextLine
  pub value : Result OverOne DrnCause

-- the line, with the value that it has over these names and placeholders
abbrev pub model_line : List (List ℕ) → List Placeholder → TextLine → ModelLine
model_line names defined line = record { line = line; value = entry_value names defined (content line) }

-- the lines of the model, read with what was declared before it
abbrev pub model_lines : List (Part TextLine) → List ModelLine
model_lines parts = gather (λ before part. map (model_line (names before) (placeholders before)) (said_in Model part)) [] parts

-- the first word is this one
abbrev pub begins_with : List ℕ → List (Piece WordKind) → Bool
begins_with name [] = false
begins_with name (w ∷ ws) = bytes_eq w.bytes name

-- a line `state ID` with labels begins a state
abbrev pub is_state : ModelLine → Bool
is_state l = begins_with (codes "state") (words (content l.line))

-- a line `action` begins a choice
abbrev pub is_action : ModelLine → Bool
is_action l = begins_with (codes "action") (words (content l.line))

-- a group is no label, and a label is compared without its quotes
abbrev pub is_label : List ℕ → Piece WordKind → Bool
is_label label w = elim w.form [ Ok word.Group ↦ false | Ok form ↦ bytes_eq (unquoted form w.bytes) label | Err fault ↦ false ]

-- the words behind the number of a state's line carry this label
abbrev pub carries : List ℕ → ModelLine → Bool
carries label l = list_any (is_label label) (drop 2 (words (content l.line)))

-- the transition of a line, if it is one
abbrev pub transition : ModelLine → List Transition
transition l = elim l.value [ Ok value ↦ record { line = l.line.number; target = target_of (content l.line); value = value } ∷ [] | Err cause ↦ [] ]

-- the transitions of a choice
abbrev pub transitions : List ModelLine → List Transition
transitions lines = flat_map transition lines

-- The choices of a state: transitions that stand before its first action line are its choice 0, and each action line begins a choice.
abbrev pub choices : List ModelLine → List (List Transition)
choices lines = let cut = parts is_action lines in
    let actions = map (λ action. transitions action.body) cut.1 in if is_empty cut.0 then actions else transitions cut.0 ∷ actions

-- a state: its line, whether it carries `init` and whether the goal's label, and its choices
pub record StateText : Type 0 where
  pub line : ℕ
  pub init : Bool
  pub goal : Bool
  pub choices : List (List Transition)

-- the state that a part of the model is, for a goal's label
abbrev pub state : List ℕ → Part ModelLine → StateText
state label part = record { line = part.head.line.number; init = carries (codes "init") part.head; goal = carries label part.head; choices = choices part.body }

-- the states of a text for a goal's label
abbrev pub states : List ℕ → List (Part TextLine) → List StateText
states label sections = map (state label) (parts is_state (model_lines sections)).1
