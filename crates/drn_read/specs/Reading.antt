-- What a model text stands for: a model, or a refusal with its line and cause. Each line is judged by what the lines before it say, and after the last line the whole text is judged.
use Rattle.std.specs.Prelude.{if◌then◌else◌, ◌≡◌, ◌≢◌, ℕ, pos, Bool, false, not, nat_le, List, [], ◌∷◌, ◌++◌, ◌==◌, ◌||◌, ◌/◌, length, map, find, fold, count_by, is_some, unsigned_abs, Option, Some, None, Result, Ok, Err}
use Rattle.std.specs.List.{list_any, flat_map, position_or_len}
use Rattle.std.specs.Option.{option_map, unwrap_or}
use Rattle.lift_frac.specs.Gcd.{lcm}
use Rattle.lift_poly.specs.Polynomial.{Term}
use Rattle.lift_poly.specs.Arithmetic as poly
use Rattle.lift_model.specs.declared.kind.Kind.TheVariants.{Dtmc}
use Rattle.lift_model.specs.Model.{ModelData}
use Rattle.lift_model.specs.Valid.{common_limit, coefficient_limit}
use Rattle.lift_model.specs.declared.entry.Entry.{Entry}
use Rattle.drn_lexer.specs.Lines.{TextLine, lines, own_fault, is_comment}
use Rattle.drn_expr.specs.RatPolys.{OverOne}
use Rattle.drn_read.specs.Faults.{when, first_of, lexed, reported}
use Rattle.drn_read.specs.Parts.{last}
use Rattle.drn_read.specs.Sections.{Header, sections, header}
use Rattle.drn_read.specs.States.{StateText, states}
use Rattle.drn_read.specs.Judging.{Said, has, choice_count, choiceless, line_fault}
use Rattle.drn_read.specs.declared.error.DrnCause.{DrnCause}
use Rattle.drn_read.specs.declared.error.DrnCause.TheVariants.{MissingSection, NoState, CountMismatch, TargetRange, InitCount, UnknownLabel, CommonDenominator, Memory}
use Rattle.drn_read.specs.declared.error.DrnError.{DrnError}
use Rattle.drn_read.specs.declared.state.Transition.{Transition}
use Rattle.drn_read.specs.declared.section.Section.{Section}
use Rattle.drn_read.specs.declared.section.Section.TheVariants.{NrStates, NrChoices, Model}

-- what lines say, for a goal's label
unfoldable pub said : List ℕ → List TextLine → Said
said label lines = record { header = header (sections lines); states = states label (sections lines) }

-- The first fault of a line behind these others: of the line by itself, or by what they say. Nothing more is asked of a comment line.
unfoldable pub judge : List ℕ → List TextLine → TextLine → Option DrnError
judge label before line = elim (own_fault line) [
  | Some fault ↦ reported line.number (Some (lexed fault))
  | None ↦ if is_comment line then None else line_fault (said label before) line
]

-- the fault of the first line that has one, behind these others
unfoldable pub first_fault : List ℕ → List TextLine → List TextLine → Option DrnError
first_fault label before [] = None
first_fault label before (line ∷ lines) = elim (judge label before line) [ Some fault ↦ Some fault | None ↦ first_fault label (before ++ line ∷ []) lines ]

-- ---- the end of the text

-- all transitions, in their order
abbrev pub all_transitions : List StateText → List Transition
all_transitions states = flat_map (λ s. flat_map (λ choice. choice) s.choices) states

-- the common denominator: the least common multiple of the denominators of all values
abbrev pub common : List StateText → ℕ
common states = fold (λ c t. lcm c t.value.den) 1 (all_transitions states)

-- a value's polynomial over the common denominator
abbrev pub scaled : ℕ → OverOne → List Term
scaled c value = poly.scaled (pos (c / value.den)) value.terms

-- a coefficient over the common denominator is too large
abbrev pub is_large : ℕ → Transition → Bool
is_large c t = list_any (λ term. nat_le coefficient_limit (unsigned_abs term.1)) (scaled c t.value)

-- a number that was announced isn't this one
abbrev pub differs : Option ℕ → ℕ → Bool
differs announced number = elim announced [ Some n ↦ not (n == number) | None ↦ false ]

-- the first number that was announced and isn't the one that was read: that of states, and then that of choices
abbrev pub mismatch : Header → ℕ → ℕ → Option Section
mismatch h states choices = if differs h.state_count states then Some NrStates else (if differs h.choice_count choices then Some NrChoices else None)

-- a common denominator or a coefficient over it that is too large
abbrev pub common_fault : List StateText → Option DrnCause
common_fault states = when (nat_le common_limit (common states) || list_any (is_large (common states)) (all_transitions states)) CommonDenominator

-- The tests at the end of the text, whose last line has this number. A state without choice and a target that is no state are told by their own lines.
unfoldable pub end_fault : ℕ → Said → Option DrnError
end_fault number said = let count = length said.states in first_of (
    reported number (when (not (has Model said.header)) MissingSection)
    ∷ choiceless said.states
    ∷ reported number (when (count == 0) NoState)
    ∷ reported number (when (is_some (mismatch said.header count (choice_count said.states))) CountMismatch)
    ∷ option_map (λ t. record { line = t.line; cause = TargetRange }) (find (λ t. nat_le count t.target) (all_transitions said.states))
    ∷ reported number (when (not (count_by (λ s. s.init) said.states == 1)) InitCount)
    ∷ reported number (when (not (list_any (λ s. s.goal) said.states)) UnknownLabel)
    ∷ reported number (common_fault said.states) ∷ [])

-- a transition as an entry of a row, over the common denominator
abbrev pub entry : ℕ → Transition → Entry
entry c t = record { target = t.target; poly = scaled c t.value }

-- The model, a chain where no type was named. A choice is a row, whose entries keep the order of their lines; an entry of value 0 is kept.
unfoldable pub model : Said → ModelData
model said = record {
  kind = unwrap_or said.header.kind Dtmc;
  common = pos (common said.states);
  names = said.header.names;
  goal = map (λ s. s.goal) said.states;
  init = position_or_len (λ s. s.init) said.states;
  states = map (λ s. map (map (entry (common said.states))) s.choices) said.states;
}

-- the number of the last line, 0 where there is none
abbrev pub last_number : List TextLine → ℕ
last_number lines = elim (last lines) [ Some line ↦ line.number | None ↦ 0 ]

-- the model at the end of a text whose lines have no fault, or what is wrong there
abbrev pub ended : ℕ → Said → Result ModelData DrnError
ended number said = elim (end_fault number said) [ Some fault ↦ Err fault | None ↦ Ok (model said) ]

-- The model that a text stands for, where the goal states are those with this label, or its refusal.
unfoldable pub drn : List ℕ → List ℕ → Result ModelData DrnError
drn text label = elim (first_fault label [] (lines text)) [ Some fault ↦ Err fault | None ↦ ended (last_number (lines text)) (said label (lines text)) ]

-- the answer is this one, want of memory aside
abbrev pub IsAnswer : Result ModelData DrnError → Result ModelData DrnError → Type 0
IsAnswer (Ok m) right = right ≡ Ok m
IsAnswer (Err error) right = error.cause ≢ Memory → right ≡ Err error
