-- The sections of a model text, by this project's profile of the DRN format: what they declare, and what may stand in them.
use Prim.Native.Char.{code}
use Rattle.std.specs.Prelude.{ℕ, Bool, false, not, nat_eq, List, [], ◌∷◌, ◌++◌, ◌==◌, take_while, drop, length, map, filter, codes, Option, Some, None, Result, Ok, Err, if◌then◌else◌}
use Rattle.std.specs.List.{list_all, flat_map, starts_with}
use Rattle.std.specs.Option.{option_map}
use Rattle.std.specs.Str.{bytes_eq}
use Rattle.std.specs.Str.Parse.{digits_value}
use Rattle.lift_model.specs.declared.kind.Kind.{Kind}
use Rattle.lift_model.specs.declared.kind.Kind.TheVariants.{Dtmc, Mdp}
use Rattle.lift_bytes.specs.Bytes.{is_name_byte, first_passes, behind}
use Rattle.lift_bytes.specs.Trimming.{trimmed}
use Rattle.drn_lexer.specs.Lines.{TextLine, content, is_comment, is_blank_line}
use Rattle.drn_lexer.specs.Words.{words}
use Rattle.drn_expr.specs.RatPolys.{OverOne}
use Rattle.drn_read.specs.Parts.{Part, parts, last}
use Rattle.drn_read.specs.Text.{value_behind}
use Rattle.drn_read.specs.declared.error.DrnCause.{DrnCause}
use Rattle.drn_read.specs.declared.section.Phase.{Phase}
use Rattle.drn_read.specs.declared.section.Phase.TheVariants as phase
use Rattle.drn_read.specs.declared.section.Section.{Section}
use Rattle.drn_read.specs.declared.section.Section.TheVariants.{ModelType, ValueType, Parameters, RewardModels, NrStates, NrChoices, Placeholders, Model}

-- The section that a line begins. Behind `@type:` and `@value_type:` anything may stand, and behind the other words nothing.
abbrev pub section_of : List ℕ → Option Section
section_of line = if starts_with nat_eq line (codes "@type:") then Some ModelType
    else (if starts_with nat_eq line (codes "@value_type:") then Some ValueType
    else (if bytes_eq line (codes "@parameters") then Some Parameters
    else (if bytes_eq line (codes "@reward_models") then Some RewardModels
    else (if bytes_eq line (codes "@nr_states") then Some NrStates
    else (if bytes_eq line (codes "@nr_choices") then Some NrChoices
    else (if bytes_eq line (codes "@placeholders") then Some Placeholders
    else (if bytes_eq line (codes "@model") then Some Model else None)))))))

-- the sections in the order of their table, to tell whether two are the same
abbrev pub section_number : Section → ℕ
section_number ModelType = 0
section_number ValueType = 1
section_number Parameters = 2
section_number RewardModels = 3
section_number NrStates = 4
section_number NrChoices = 5
section_number Placeholders = 6
section_number Model = 7

-- the two sections are the same one
abbrev pub is_same : Section → Section → Bool
is_same a b = section_number a == section_number b

-- a line that begins with `@`
abbrev pub is_head : TextLine → Bool
is_head line = first_passes (λ b. b == code "@") (content line)

-- The sections of a text are the sublists of its lines that begin at lines with `@`. Comment lines belong to none.
abbrev pub sections : List TextLine → List (Part TextLine)
sections lines = (parts is_head (filter (λ line. not (is_comment line)) lines)).1

-- the section that a part is
abbrev pub section_at : Part TextLine → Option Section
section_at part = section_of (content part.head)

-- the part is this section
abbrev pub is_section : Section → Part TextLine → Bool
is_section s part = elim (section_at part) [ Some t ↦ is_same s t | None ↦ false ]

-- the lines of a section that aren't blank, where the part is that section
abbrev pub said_in : Section → Part TextLine → List TextLine
said_in s part = if is_section s part then filter (λ line. not (is_blank_line line)) part.body else []

-- ---- what may stand next. A phase says what the section that stands open lets stand on its next line; the reader keeps it by the same enum.

-- Behind these lines of a section. The list of parameters and that of reward models is one line, which may be blank. A number stands on the first line that isn't blank. Placeholders go on up to the next section, and the model up to the end.
abbrev pub phase_in : Section → List TextLine → Phase
phase_in Parameters [] = phase.NameList
phase_in RewardModels [] = phase.RewardList
phase_in NrStates lines = if list_all is_blank_line lines then phase.StateCount else phase.Sections
phase_in NrChoices lines = if list_all is_blank_line lines then phase.ChoiceCount else phase.Sections
phase_in Placeholders lines = phase.Placeholders
phase_in Model lines = phase.Model
phase_in _ lines = phase.Sections

-- behind the lines of a part
abbrev pub phase_of : Part TextLine → Phase
phase_of part = elim (section_at part) [ Some s ↦ phase_in s part.body | None ↦ phase.Sections ]

-- behind these sections, of which the last one is the one that stands open
abbrev pub phase_behind : List (Part TextLine) → Phase
phase_behind parts = elim (last parts) [ Some part ↦ phase_of part | None ↦ phase.Sections ]

-- ---- what the sections declare

-- the text behind `@type:`, without blanks around it
abbrev pub type_text : List ℕ → List ℕ
type_text line = trimmed (drop (length (codes "@type:")) line)

-- `DTMC` is a Markov chain and `MDP` a decision process
abbrev pub kind_of : List ℕ → Option Kind
kind_of text = if bytes_eq text (codes "DTMC") then Some Dtmc else (if bytes_eq text (codes "MDP") then Some Mdp else None)

-- the type that a section names
abbrev pub kind_in : Part TextLine → List Kind
kind_in part = if is_section ModelType part then (elim (kind_of (type_text (content part.head))) [ Some kind ↦ kind ∷ [] | None ↦ [] ]) else []

-- the words of the list line, the first one of a section
abbrev pub list_words : List TextLine → List (List ℕ)
list_words [] = []
list_words (line ∷ lines) = map (λ word. word.bytes) (words (content line))

-- the parameters that a section declares, in their order
abbrev pub names_in : Part TextLine → List (List ℕ)
names_in part = if is_section Parameters part then list_words part.body else []

-- the parameters that these sections declare
abbrev pub names : List (Part TextLine) → List (List ℕ)
names parts = flat_map names_in parts

-- the number that these sections announce in this one of them
abbrev pub count_in : Section → List (Part TextLine) → Option ℕ
count_in s parts = option_map (λ line. digits_value 10 (content line)) (last (flat_map (said_in s) parts))

-- a placeholder: its name without the `$`, and its value
pub record Placeholder : Type 0 where
  pub name : List ℕ
  pub value : OverOne

-- the name in a line `$name : value`: letters, digits and `_`
abbrev pub placeholder_name : List ℕ → List ℕ
placeholder_name line = take_while is_name_byte (drop 1 line)

-- the value in that line, over these names
abbrev pub placeholder_value : List (List ℕ) → List ℕ → Result OverOne DrnCause
placeholder_value names line = value_behind names (behind is_name_byte (drop 1 line))

-- the placeholder that a line defines
abbrev pub placeholder : List (List ℕ) → List ℕ → List Placeholder
placeholder names line = elim (placeholder_value names line) [ Ok value ↦ record { name = placeholder_name line; value = value } ∷ [] | Err cause ↦ [] ]

-- what each section gives, seen with the sections before it
abbrev pub gather : {A : Type 0} → (List (Part TextLine) → Part TextLine → List A) → List (Part TextLine) → List (Part TextLine) → List A
gather give before [] = []
gather give before (part ∷ parts) = give before part ++ gather give (before ++ part ∷ []) parts

-- the placeholders that these sections define; a value may use the parameters that were declared before it
abbrev pub placeholders : List (Part TextLine) → List Placeholder
placeholders parts = gather (λ before part. flat_map (λ line. placeholder (names before) (content line)) (said_in Placeholders part)) [] parts

-- What the sections say: what may stand next, which sections there are, the type of the model, its parameters and placeholders, and the numbers of states and choices that it announces.
pub record Header : Type 0 where
  pub phase : Phase
  pub seen : List Section
  pub kind : Option Kind
  pub names : List (List ℕ)
  pub placeholders : List Placeholder
  pub state_count : Option ℕ
  pub choice_count : Option ℕ

-- the section that a part is, if it is one
abbrev pub section_in : Part TextLine → List Section
section_in part = elim (section_at part) [ Some s ↦ s ∷ [] | None ↦ [] ]

-- what these sections say, taken together
abbrev pub header : List (Part TextLine) → Header
header parts = record {
  phase = phase_behind parts;
  seen = flat_map section_in parts;
  kind = last (flat_map kind_in parts);
  names = names parts;
  placeholders = placeholders parts;
  state_count = count_in NrStates parts;
  choice_count = count_in NrChoices parts;
}
