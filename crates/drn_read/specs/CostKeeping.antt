-- How what the lines of a text say of rewards grows with one more line. It is what a reader keeps from line to line.
use Rattle.std.specs.Prelude.{ℕ, List, [], ◌∷◌, ◌++◌, map, drop, codes, if◌then◌else◌}
use Rattle.drn_lexer.specs.Cutting.{Piece}
use Rattle.drn_lexer.specs.Lines.{TextLine, content}
use Rattle.drn_lexer.specs.Words.{WordKind, words}
use Rattle.drn_read.specs.Sections.{is_head}
use Rattle.drn_read.specs.States.{begins_with}
use Rattle.drn_read.specs.Keeping.{with_line}
use Rattle.drn_read.specs.Rewards.{reward_name}
use Rattle.drn_read.specs.RewardLines.{rewards_at}
use Rattle.drn_read.specs.Costs.{Rewards, CostSaid, cost_in, place_of}
use Rattle.drn_read.specs.declared.section.Phase.{Phase}
use Rattle.drn_read.specs.declared.section.Phase.TheVariants as phase

-- behind the list of names
abbrev pub with_reward_names : Rewards → List (Piece WordKind) → Rewards
with_reward_names r ws = record r { names = r.names ++ map reward_name ws }

-- behind a line of the model of these words
abbrev pub with_reward_words : Rewards → List (Piece WordKind) → Rewards
with_reward_words r ws = if begins_with (codes "state") ws then record r { costs = r.costs ++ cost_in (place_of r) (rewards_at (drop 2 ws)) ∷ [] } else r

-- behind a line without fault that is no comment, where this may stand
abbrev pub rewards_with : Phase → Rewards → TextLine → Rewards
rewards_with p r line = elim p [
  | phase.RewardList ↦ if is_head line then r else with_reward_names r (words (content line))
  | phase.Model ↦ with_reward_words r (words (content line))
  | _ ↦ r
]

-- behind a line without fault that is no comment, for a goal's label
abbrev pub with_cost_line : List ℕ → CostSaid → TextLine → CostSaid
with_cost_line label s line = record { said = with_line label s.said line; rewards = rewards_with s.said.header.phase s.rewards line }
