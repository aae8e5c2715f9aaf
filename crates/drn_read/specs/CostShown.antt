-- How the code's pieces of a text with rewards are seen. No public clause rests on it.
use Rattle.std.specs.Prelude.{◌≡◌, ◌≢◌, ℕ, List, Result, Ok, Err, drop, Option, Some, None, if◌then◌else◌}
use Rattle.drn_lexer.specs.Cutting.{Piece}
use Rattle.drn_lexer.specs.Words.{WordKind}
use Rattle.drn_read.specs.States.{begins_with}
use Rattle.drn_read.specs.Reading.{ended, drn}
use Rattle.drn_read.specs.Costs.{Asked, CostSaid, cost_ended, drn_costs}
use Rattle.drn_read.specs.declared.error.DrnCause.TheVariants.{Memory}
use Rattle.drn_read.specs.declared.error.DrnError.{DrnError}

-- the words behind the first one, where that is this one
abbrev pub behind_word : List ℕ → List (Piece WordKind) → Option (List (Piece WordKind))
behind_word name ws = if begins_with name ws then Some (drop 1 ws) else None

-- what is asked for, where a reader keeps the reward
abbrev pub asked_of : List ℕ → CostSaid → Asked
asked_of label s = record { label = label; reward = s.rewards.asked }

-- the lines of a text were read with their rewards, and the number of the last one was given
abbrev pub ReadsCostLines : Asked → List ℕ → Result ℕ DrnError → CostSaid → Type 0
ReadsCostLines asked text (Ok number) kept = (drn_costs text asked ≡ cost_ended number kept) × (drn text asked.label ≡ ended number kept.said)
ReadsCostLines asked text (Err error) kept = error.cause ≢ Memory → drn_costs text asked ≡ Err error
