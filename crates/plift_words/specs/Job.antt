-- What a command line asks for.
use Rattle.std.specs.Prelude.{ℕ, Bool, List, [], codes, drop, Option, Some, None, Result, Ok, Err, if◌then◌else◌, option_and_then}
use Rattle.std.specs.Option.{ok_or, unwrap_or}
use Rattle.lift_grid.specs.Rectangle.{most_halvings}
use Rattle.lift_grid.specs.Region.{◌>>=◌}
use Rattle.corner_lift.specs.Case.{most_precision}
use Rattle.lift_cert.specs.declared.bound.Bound.{Bound}
use Rattle.plift_words.specs.Line.{is_lumped, is_property, is_cost, is_asking, is_check, is_migrate, depth_behind, word_behind, options, value_of}
use Rattle.plift_words.specs.Values.{goal_of, reward_of, bound_of, cap_of, budget_of, option_number, steps_of, blocks_of}
use Rattle.plift_words.specs.declared.job.Field.{Field}
use Rattle.plift_words.specs.declared.job.Field.TheVariants as field
use Rattle.plift_words.specs.declared.query.CostLimits.{CostLimits}
use Rattle.plift_words.specs.declared.query.Query.{Query}
use Rattle.plift_words.specs.declared.query.Query.TheVariants as query
use Rattle.property_text.specs.Formula.{FormulaData, formula_of}
use Rattle.property_text.specs.declared.error.FormulaError.{FormulaError}
use Rattle.property_text.specs.declared.error.FormulaError.TheVariants as error

-- What is to be verified: what is asked of a goal label, over a region, to a depth of splits and with numbers over 2 ^ precision.
pub record VerifyData : Type 0 where
  pub goal : List ℕ
  -- the label of the states that a path may pass through; all where there is none
  pub safe : Option (List ℕ)
  -- the name of the reward that is paid; none where nothing is
  pub reward : Option (List ℕ)
  -- the text that names the region
  pub region : List ℕ
  pub depth : ℕ
  pub precision : ℕ
  pub query : Query

-- what a line asks for: a command, with what it is asked
pub data JobData : Type 0 where
  verify : VerifyData → JobData
  -- a report is to be checked
  check : JobData
  -- the text of a report is to be written as one with a range of precisions
  migrate : JobData
  -- a report is to be gone on from to that depth
  refine : ℕ → JobData
  -- the ladder of so many blocks is to be written
  generate : ℕ → JobData
  -- the ladder of so many blocks is to be verified, and its report checked
  selftest : ℕ → JobData

-- the least precision of a range up to this one, where its option stands there
abbrev pub from_in : ℕ → Option (List ℕ) → Result (Option ℕ) Field
from_in precision None = Ok None
from_in precision (Some word) = ok_or (option_number 1 precision word) field.From >>= λ from. Ok (Some from)

-- What is asked with a bound, by whether it asks to lump, the precision, and the words of the options for steps and for a range: within a number of steps where their option stands there, by the quotient where it asks to lump, and else with a range where one is told.
abbrev pub query_in : Bound → Bool → ℕ → Option (List ℕ) → Option (List ℕ) → Result Query Field
query_in bound lumps precision (Some word) from = ok_or (steps_of word) field.Steps >>= λ steps. Ok (query.Within bound steps)
query_in bound lumps precision None from = if lumps then Ok (query.Lumped bound) else (from_in precision from >>= λ least. Ok (query.Whole bound least))

-- the depth, where its word is a number in its range; 0 where there is none
abbrev pub depth_of : Option (List ℕ) → Result ℕ Field
depth_of word = ok_or (option_number 0 most_halvings (unwrap_or word (codes "0"))) field.Depth

-- the precision; 24 where there is none
abbrev pub precision_of : Option (List ℕ) → Result ℕ Field
precision_of word = ok_or (option_number 1 most_precision (unwrap_or word (codes "24"))) field.Precision

-- The job of a line of `verify`, `bounded` or `lumped`, by whether it asks to lump and the words behind its options, or the first of goal, bound, depth, precision, and steps or the least precision that is out of its grammar or range. Without its option the region's text is empty, the depth is 0, and the precision is 24. No text of a region is at fault here.
abbrev pub verify_job : Bool → (List ℕ → Option (List ℕ)) → Result JobData Field
verify_job lumps given = do
  goal ← ok_or (option_and_then goal_of (given (codes "--goal"))) field.Goal
  bound ← ok_or (option_and_then bound_of (given (codes "--bound"))) field.Bound
  depth ← depth_of (given (codes "--depth"))
  precision ← precision_of (given (codes "--precision"))
  asked ← query_in bound lumps precision (given (codes "--steps")) (given (codes "--from"))
  Ok (JobData.verify (record { goal = goal; safe = None; reward = None; region = unwrap_or (given (codes "--region")) []; depth = depth; precision = precision; query = asked }))

-- the formula that is told, or that it is none, or has no bound
abbrev pub formula_field : Result FormulaData FormulaError → Result FormulaData Field
formula_field (Ok f) = Ok f
formula_field (Err error.Bound) = Err field.FormulaBound
formula_field (Err _) = Err field.Formula

-- the formula of the word of its option
abbrev pub formula_in : Option (List ℕ) → Result FormulaData Field
formula_in None = Err field.Formula
formula_in (Some word) = formula_field (formula_of word)

-- The job of a line of `property`, by the words behind its options, or the first of formula, its bound, depth, precision, and the least precision that is out of its grammar or range.
abbrev pub property_job : (List ℕ → Option (List ℕ)) → Result JobData Field
property_job given = do
  formula ← formula_in (given (codes "--formula"))
  depth ← depth_of (given (codes "--depth"))
  precision ← precision_of (given (codes "--precision"))
  from ← from_in precision (given (codes "--from"))
  Ok (JobData.verify (record { goal = formula.goal; safe = formula.safe; reward = None; region = unwrap_or (given (codes "--region")) []; depth = depth; precision = precision; query = query.Property formula.bound formula.op from }))

-- the cap and the budget, or the first of them that is out of its grammar or range
abbrev pub limits_in : Option (List ℕ) → Option (List ℕ) → Result CostLimits Field
limits_in cap budget = do
  most ← ok_or (option_and_then cap_of cap) field.Cap
  paid ← ok_or (option_and_then (budget_of most) budget) field.Budget
  Ok (record { cap = most; budget = paid })

-- The job of a line of `cost`, by the words behind its options, or the first of goal, depth, precision, reward, cap and budget that is out of its grammar or range.
abbrev pub cost_job : (List ℕ → Option (List ℕ)) → Result JobData Field
cost_job given = do
  goal ← ok_or (option_and_then goal_of (given (codes "--goal"))) field.Goal
  depth ← depth_of (given (codes "--depth"))
  precision ← precision_of (given (codes "--precision"))
  reward ← ok_or (option_and_then reward_of (given (codes "--reward"))) field.Reward
  limits ← limits_in (given (codes "--cap")) (given (codes "--budget"))
  Ok (JobData.verify (record { goal = goal; safe = None; reward = Some reward; region = unwrap_or (given (codes "--region")) []; depth = depth; precision = precision; query = query.Cost limits }))

-- the job of a line of one of these five commands
abbrev pub asking_job : List (List ℕ) → (List ℕ → Option (List ℕ)) → Result JobData Field
asking_job words given = if is_property words then property_job given else (if is_cost words then cost_job given else verify_job (is_lumped words) given)

-- the job of a number of blocks, or that it is at fault
abbrev pub blocks_job : (ℕ → JobData) → List ℕ → Result JobData Field
blocks_job make word = ok_or (blocks_of word) field.Blocks >>= λ blocks. Ok (make blocks)

-- the job of a depth, or that it is at fault
abbrev pub refine_job : List ℕ → Result JobData Field
refine_job word = ok_or (option_number 1 most_halvings word) field.Depth >>= λ depth. Ok (JobData.refine depth)

-- the job of a line of another command
abbrev pub other_job : List (List ℕ) → Result JobData Field
other_job words = if is_check words then Ok JobData.check else if is_migrate words then Ok JobData.migrate else (elim (depth_behind (codes "refine") words) [
  | Some word ↦ refine_job word
  | None ↦ elim (word_behind (codes "generate") words) [
    | Some word ↦ blocks_job JobData.generate word
    | None ↦ elim (word_behind (codes "selftest") words) [ Some word ↦ blocks_job JobData.selftest word | None ↦ Err field.Words ]
  ]
])

-- the job that a line asks for, or the part of the line at fault: the whole of it exactly where it isn't plain
abbrev pub job : List (List ℕ) → Result JobData Field
job words = if is_asking words then asking_job words (λ name. value_of name (options (drop 1 words))) else other_job words
