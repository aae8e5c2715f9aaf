-- What holds of every model that is read with costs.
use Rattle.std.specs.Prelude.{◌≡◌, ℕ, List, length, Ok}
use Rattle.lift_costs.specs.Costs.{CostData}
use Rattle.lift_model.specs.Model.{ModelData}
use Rattle.drn_read.specs.Reading.{drn}
use Rattle.drn_read.specs.Costs.{Asked, drn_costs}

-- a text stands for this model without its rewards too, and each of its states has a cost
pub record IsReadWith (text label : List ℕ) (m : ModelData) (costs : List CostData) : Type 0 where
  pub model : drn text label ≡ Ok m
  pub count : length costs ≡ length m.states

-- a text that stands for a model with costs is such a one
abbrev pub CostsAreReadWithTheModel : Type 0
CostsAreReadWithTheModel = (text : List ℕ) (asked : Asked) (m : ModelData) (costs : List CostData) → drn_costs text asked ≡ Ok (m, costs) → IsReadWith text asked.label m costs
