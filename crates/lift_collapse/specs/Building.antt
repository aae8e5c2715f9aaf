-- How a collapsed model is built of the states that are kept.
use Rattle.std.specs.Prelude.{◌≢◌, ℕ, ◌<◌, ◌≤◌, Bool, true, List, All, AllPairs, Contains, length, map, sum_by, slice_index_or}
use Rattle.lift_model.specs.declared.entry.Entry.{Entry}
use Rattle.lift_model.specs.Model.{ModelData, is_goal, choices}
use Rattle.lift_model.specs.Valid.{most_choices, most_transitions}

-- the states of a collapsed model
abbrev pub States : Type 0
States = List (List (List Entry))

-- an entry whose target is at its place
abbrev pub entry_at_place : List ℕ → Entry → Entry
entry_at_place places entry = record entry { target = slice_index_or places entry.target 0 }

-- a row with each target at its place
abbrev pub row_at_places : List ℕ → List Entry → List Entry
row_at_places places row = map (entry_at_place places) row

-- the choices of the states that are kept, each target at its place
abbrev pub states_at_places : ModelData → List ℕ → List ℕ → States
states_at_places m places kept = map (λ s. map (row_at_places places) (choices m s)) kept

-- whether the states that are kept are goal states
abbrev pub goals_at_places : ModelData → List ℕ → List Bool
goals_at_places m kept = map (is_goal m) kept

-- the collapsed model of these parts
abbrev pub built : ModelData → List ℕ → List ℕ → ModelData
built m places kept = record {
  kind = m.kind;
  common = m.common;
  names = m.names;
  goal = goals_at_places m kept;
  init = slice_index_or places m.init 0;
  states = states_at_places m places kept;
}

-- no target of the row stands twice, and each is one of so many states
pub record HasTargets (states : ℕ) (row : List Entry) : Type 0 where
  pub below : All (λ entry. entry.target < states) row
  pub distinct : AllPairs (λ a b. a.target ≢ b.target) row

-- what is tested of the parts of a collapsed model
pub record AreParts (m : ModelData) (places kept : List ℕ) : Type 0 where
  pub few : length kept ≤ length m.states
  pub states : All (λ s. s < length m.states) kept
  pub init : slice_index_or places m.init 0 < length kept
  pub goal : Contains (goals_at_places m kept) true
  pub rows : All (All (HasTargets (length kept))) (states_at_places m places kept)
  pub choices : sum_by length (states_at_places m places kept) ≤ most_choices
  pub transitions : sum_by (sum_by length) (states_at_places m places kept) ≤ most_transitions
