-- The model that a job asks of a text: the one that the text stands for, which of its states are safe, and what they cost.
use Rattle.std.specs.Prelude.{Bool, ℕ, List, [], Some, None, Result, Ok}
use Rattle.std.specs.declared.option.Option.{Option}
use Rattle.std.specs.Option.{unwrap_or}
use Rattle.lift_grid.specs.Region.{◌>>=◌}
use Rattle.lift_costs.specs.Costs.{CostData}
use Rattle.lift_model.specs.Model.{ModelData}
use Rattle.drn_read.specs.Reading.{drn}
use Rattle.drn_read.specs.Costs.{drn_costs}
use Rattle.drn_read.specs.declared.error.DrnError.{DrnError}
use Rattle.property_text.specs.Restricted.{restricted, all_safe}
use Rattle.plift_words.specs.Job.{VerifyData}

-- a model that was read with the label of the goal states, which states have the label of the safe states, where one is told, and what a visit of each state costs, where a reward is told, else nothing
pub record AskedModel : Type 0 where
  pub read : ModelData
  pub safe : Option (List Bool)
  pub costs : List CostData

-- a model that is asked as it was read
abbrev pub uncut : ModelData → AskedModel
uncut m = record { read = m; safe = None; costs = [] }

-- which states are safe: all of them where no label is told
abbrev pub safe_states : AskedModel → List Bool
safe_states a = unwrap_or a.safe (all_safe a.read)

-- the model that is verified: the one that was read, after the cut where a label of safe states is told
abbrev pub cut : AskedModel → ModelData
cut a = elim a.safe [ Some safe ↦ restricted a.read safe | None ↦ a.read ]

-- which states of a text have the label of the safe states, where one is told
abbrev pub safe_in : List ℕ → Option (List ℕ) → Result (Option (List Bool)) DrnError
safe_in text None = Ok None
safe_in text (Some label) = drn text label >>= λ m. Ok (Some m.goal)

-- the model of a text with the label of the goal states, and then with that of the safe ones where one is told, or why the text stands for none
abbrev pub safe_model : VerifyData → List ℕ → Result AskedModel DrnError
safe_model job text = do
  m ← drn text job.goal
  safe ← safe_in text job.safe
  Ok (record { read = m; safe = safe; costs = [] })

-- the model of a text with the label of the goal states, with the costs of a reward, or why the text stands for none
abbrev pub costed_model : List ℕ → List ℕ → List ℕ → Result AskedModel DrnError
costed_model text goal reward = drn_costs text (record { label = goal; reward = reward }) >>= λ found. Ok (record { read = found.0; safe = None; costs = found.1 })

-- the model that a job asks of a text, or why the text stands for none: with costs where a reward is told
abbrev pub asked_model : VerifyData → List ℕ → Result AskedModel DrnError
asked_model job text = elim job.reward [ Some reward ↦ costed_model text job.goal reward | None ↦ safe_model job text ]

-- the model of a text that is verified for a job
abbrev pub verified_model : VerifyData → List ℕ → Result ModelData DrnError
verified_model job text = asked_model job text >>= λ a. Ok (cut a)
