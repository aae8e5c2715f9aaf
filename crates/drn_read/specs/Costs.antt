-- What a model text with rewards stands for: the model that it stands for without them, and the cost of each state; or a refusal. A line is judged as without rewards, but for those that the reading reaches.
use Rattle.std.specs.Prelude.{◌≡◌, ◌≢◌, ℕ, Bool, true, false, is_none, List, [], ◌∷◌, ◌++◌, drop, length, map, filter, position, slice_get, codes, Option, Some, None, Result, Ok, Err, if◌then◌else◌}
use Rattle.std.specs.List.{flat_map}
use Rattle.std.specs.Str.{bytes_eq}
use Rattle.lift_costs.specs.Costs.{CostData, cost, no_cost}
use Rattle.lift_model.specs.Model.{ModelData}
use Rattle.drn_lexer.specs.Lines.{TextLine, lines, content, own_fault, is_comment}
use Rattle.drn_lexer.specs.Words.{words}
use Rattle.drn_read.specs.Faults.{when, first_of, lexed, reported}
use Rattle.drn_read.specs.Parts.{Part}
use Rattle.drn_read.specs.Sections.{sections, is_section, is_head, said_in, gather}
use Rattle.drn_read.specs.States.{begins_with}
use Rattle.drn_read.specs.Judging.{Said, line_fault}
use Rattle.drn_read.specs.Reading.{said, end_fault, model, last_number}
use Rattle.drn_read.specs.Rewards.{reward_names_fault, reward_name, reward_values}
use Rattle.drn_read.specs.RewardLines.{rewards_at, words_rewards_fault}
use Rattle.drn_read.specs.declared.error.DrnCause.{DrnCause}
use Rattle.drn_read.specs.declared.error.DrnCause.TheVariants.{UnknownReward, CommonDenominator, Memory}
use Rattle.drn_read.specs.declared.error.DrnError.{DrnError}
use Rattle.drn_read.specs.declared.section.Phase.TheVariants as phase
use Rattle.drn_read.specs.declared.section.Section.TheVariants.{RewardModels, Model}

-- what is asked of a text: the label of its goal states, and the name of the reward that is their cost
pub record Asked : Type 0 where
  pub label : List ℕ
  pub reward : List ℕ

-- ---- what lines say of rewards

-- the names in the list line, the first one of a section
abbrev pub listed_rewards : List TextLine → List (List ℕ)
listed_rewards [] = []
listed_rewards (line ∷ lines) = map reward_name (words (content line))

-- the names of rewards that a section declares
abbrev pub reward_names_in : Part TextLine → List (List ℕ)
reward_names_in part = if is_section RewardModels part then listed_rewards part.body else []

-- the names that these sections declare
abbrev pub reward_names : List (Part TextLine) → List (List ℕ)
reward_names parts = flat_map reward_names_in parts

-- the value at this place of the rewards, 0 without them
abbrev pub cost_in : Option ℕ → Option (List ℕ) → CostData
cost_in (Some place) (Some group) = elim (slice_get (reward_values group) place) [ Some (Ok q) ↦ cost q | _ ↦ no_cost ]
cost_in _ _ = no_cost

-- the line begins a state
abbrev pub begins_state : TextLine → Bool
begins_state line = begins_with (codes "state") (words (content line))

-- the cost of the state that a line begins: its rewards stand behind its number
abbrev pub line_cost : Option ℕ → TextLine → CostData
line_cost place line = cost_in place (rewards_at (drop 2 (words (content line))))

-- the lines of a section that begin states
abbrev pub state_lines : Part TextLine → List TextLine
state_lines part = filter begins_state (said_in Model part)

-- the costs of the states: the values at the place of the first name that is this one, among those that were declared before the model
abbrev pub costs : List ℕ → List (Part TextLine) → List CostData
costs reward parts = gather (λ before part. map (line_cost (position (bytes_eq reward) (reward_names before))) (state_lines part)) [] parts

-- what lines say of rewards: the name that is asked for, those that are declared, and the states' costs
pub record Rewards : Type 0 where
  pub asked : List ℕ
  pub names : List (List ℕ)
  pub costs : List CostData

-- the place of the reward that is asked for
abbrev pub place_of : Rewards → Option ℕ
place_of r = position (bytes_eq r.asked) r.names

-- what lines say, with their rewards
pub record CostSaid : Type 0 where
  pub said : Said
  pub rewards : Rewards

-- what lines say, where this is asked of them
unfoldable pub cost_said : Asked → List TextLine → CostSaid
cost_said asked lines = record {
  said = said asked.label lines;
  rewards = record { asked = asked.reward; names = reward_names (sections lines); costs = costs asked.reward (sections lines) };
}

-- ---- the first fault

-- what is wrong with the rewards of a line: with the words of their list, or with the values that are reached
abbrev pub line_rewards_fault : CostSaid → TextLine → Option DrnCause
line_rewards_fault s line = elim s.said.header.phase [
  | phase.RewardList ↦ if is_head line then None else reward_names_fault (words (content line))
  | phase.Model ↦ words_rewards_fault (length s.rewards.names) s.said.header s.said.states (words (content line))
  | _ ↦ None
]

-- the first fault of a line that is no comment: of its rewards where they are reached, and else as without rewards
abbrev pub cost_line_fault : CostSaid → TextLine → Option DrnError
cost_line_fault s line = first_of (reported line.number (line_rewards_fault s line) ∷ line_fault s.said line ∷ [])

-- the first fault of a line behind these others
unfoldable pub judge_costs : Asked → List TextLine → TextLine → Option DrnError
judge_costs asked before line = elim (own_fault line) [
  | Some fault ↦ reported line.number (Some (lexed fault))
  | None ↦ if is_comment line then None else cost_line_fault (cost_said asked before) line
]

-- the fault of the first line that has one, behind these others
unfoldable pub first_cost_fault : Asked → List TextLine → List TextLine → Option DrnError
first_cost_fault asked before [] = None
first_cost_fault asked before (line ∷ lines) = elim (judge_costs asked before line) [ Some fault ↦ Some fault | None ↦ first_cost_fault asked (before ++ line ∷ []) lines ]

-- ---- the end of the text

-- the cause of the last test of a text without rewards
abbrev pub is_common : DrnCause → Bool
is_common cause = elim cause [ CommonDenominator ↦ true | _ ↦ false ]

-- a fault that is told before an unknown reward: any but that of the common denominator
abbrev pub before_common : Option DrnError → Option DrnError
before_common None = None
before_common (Some error) = if is_common error.cause then None else Some error

-- The tests at the end of the text. An unknown reward is told behind an unknown label, and before the common denominator.
abbrev pub cost_end_fault : ℕ → CostSaid → Option DrnError
cost_end_fault number s = first_of (
    before_common (end_fault number s.said)
    ∷ reported number (when (is_none (place_of s.rewards)) UnknownReward)
    ∷ end_fault number s.said ∷ [])

-- the model and the costs at the end of a text whose lines have no fault, or what is wrong there
abbrev pub cost_ended : ℕ → CostSaid → Result (ModelData × List CostData) DrnError
cost_ended number s = elim (cost_end_fault number s) [ Some fault ↦ Err fault | None ↦ Ok (model s.said, s.rewards.costs) ]

-- The model and the costs that a text stands for, where the goal states are those with the label that is asked for and the costs are those of the reward, or its refusal.
unfoldable pub drn_costs : List ℕ → Asked → Result (ModelData × List CostData) DrnError
drn_costs text asked = elim (first_cost_fault asked [] (lines text)) [ Some fault ↦ Err fault | None ↦ cost_ended (last_number (lines text)) (cost_said asked (lines text)) ]

-- the answer is this one, want of memory aside
abbrev pub IsCostAnswer : Result (ModelData × List CostData) DrnError → Result (ModelData × List CostData) DrnError → Type 0
IsCostAnswer (Ok found) right = right ≡ Ok found
IsCostAnswer (Err error) right = error.cause ≢ Memory → right ≡ Err error
