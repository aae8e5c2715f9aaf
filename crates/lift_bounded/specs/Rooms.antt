-- The room of a walk for a number of steps: the pools that it works in, when they are made for a case, and when they are as made.
use Rattle.std.specs.Prelude.{◌≡◌, ℕ, ◌+◌, ◌≤◌, List, ℤ, length}
use Rattle.lift_pool.specs.Lanes.{PoolData}
use Rattle.lift_pool.specs.Shapes.{HasLanes, IsSameShape}
use Rattle.lift_model.specs.Model.{ModelData}
use Rattle.lift_model.specs.Links.{LinksData, AreLinks}
use Rattle.corner_lift.specs.Case.{CaseData}
use Rattle.lift_walk.specs.Sides.{IsMadeForSides}

-- how many steps may be asked for at most
abbrev pub most_steps : ℕ
most_steps = 64

-- What the decision of a rectangle works in: the table of corner weights, a lane for the vector of each number of steps from 0 on, one for the choices of each from 1 on, and a place for each state of the vector and of the choices that are made.
pub record StepLanesData : Type 0 where
  pub weights : List ℤ
  pub numbers : PoolData ℤ
  pub picks : PoolData ℕ
  pub work : List ℤ
  pub marks : List ℕ

-- the sides of the rectangles on the way from the root, what the decision of each works in, and the number of steps
pub record BoundedRoomData : Type 0 where
  pub sides : PoolData ℤ
  pub lanes : StepLanesData
  pub steps : ℕ

-- all lanes are there for so many steps, for a model and its links
pub record HasStepLanes (m : ModelData) (l : LinksData) (steps : ℕ) (lanes : StepLanesData) : Type 0 where
  pub weights : length lanes.weights ≡ l.weights
  pub numbers : HasLanes lanes.numbers (steps + 1) (length m.states)
  pub picks : HasLanes lanes.picks steps (length m.states)
  pub work : length lanes.work ≡ length m.states
  pub marks : length lanes.marks ≡ length m.states

-- A room that is made for a case: it has all lanes for its number of steps, and of sides one more can be taken for each depth below the root.
pub record IsMadeFor (k : CaseData) (l : LinksData) (room : BoundedRoomData) : Type 0 where
  pub steps : (1 ≤ room.steps) × (room.steps ≤ most_steps)
  pub lanes : HasStepLanes k.model l room.steps room.lanes
  pub sides : IsMadeForSides k room.sides

-- the lanes have the shape that they had
pub record KeepsShape (old new : StepLanesData) : Type 0 where
  pub weights : length new.weights ≡ length old.weights
  pub numbers : IsSameShape old.numbers new.numbers
  pub picks : IsSameShape old.picks new.picks
  pub work : length new.work ≡ length old.work
  pub marks : length new.marks ≡ length old.marks

-- the room is as made: all has the shape that it had, what its lanes hold is free, and the number of steps is the same
pub record IsAsMade (old new : BoundedRoomData) : Type 0 where
  pub sides : IsSameShape old.sides new.sides
  pub lanes : KeepsShape old.lanes new.lanes
  pub steps : new.steps ≡ old.steps

-- the lanes are those that were made for a case and a number of steps, and what they hold is free
abbrev pub AreReadyFor : CaseData → LinksData → ℕ → StepLanesData → StepLanesData → Type 0
AreReadyFor k l steps made lanes = AreLinks k.model l × HasStepLanes k.model l steps lanes × KeepsShape made lanes
