-- The room of a walk for a budget: when it is made for a case, and when it is as made.
use Rattle.std.specs.Prelude.{◌≡◌, ◌*◌, length}
use Rattle.lift_pool.specs.Shapes.{IsSameShape}
use Rattle.lift_model.specs.Model.{ModelData}
use Rattle.lift_model.specs.Links.{LinksData}
use Rattle.corner_lift.specs.Case.{CaseData}
use Rattle.lift_walk.specs.Sides.{IsMadeForSides}
use Rattle.lift_cost.specs.Decided.{CanAskCost}
use Rattle.lift_cost.specs.declared.question.CostQuestion.{CostQuestion}
use Rattle.lift_cost.specs.declared.room.CostLanes.{CostLanes}
use Rattle.lift_cost.specs.declared.room.CostRoom.{CostRoom}

-- all places are there, for a model and its links
pub record HasCostLanes (m : ModelData) (l : LinksData) (lanes : CostLanes) : Type 0 where
  pub weights : length lanes.weights.items ≡ l.weights
  pub values : length lanes.values.items ≡ length m.states
  pub work : length lanes.work.items ≡ 2 * length m.states

-- A room that is made for a case: it has all places, and of sides one more can be taken for each depth below the root.
pub record IsMadeFor (k : CaseData) (l : LinksData) (room : CostRoom) : Type 0 where
  pub lanes : HasCostLanes k.model l room.lanes
  pub sides : IsMadeForSides k room.sides

-- there are as many places as there were
pub record KeepsPlaces (old new : CostLanes) : Type 0 where
  pub weights : length new.weights.items ≡ length old.weights.items
  pub values : length new.values.items ≡ length old.values.items
  pub work : length new.work.items ≡ length old.work.items

-- the room is as made: all has the shape that it had, and what its places hold is free
pub record IsAsMade (old new : CostRoom) : Type 0 where
  pub sides : IsSameShape old.sides new.sides
  pub lanes : KeepsPlaces old.lanes new.lanes

-- the question may be asked, and the places are those that were made for its case, whatever they hold
pub record AreReadyFor (q : CostQuestion) (made lanes : CostLanes) : Type 0 where
  pub can : CanAskCost q
  pub has : HasCostLanes q.case.now.model q.links.now lanes
  pub kept : KeepsPlaces made lanes
