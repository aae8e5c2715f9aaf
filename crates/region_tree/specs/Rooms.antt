-- The room of a walk: the pools and the collapsed model that it works in, when they are made for a case, and what is left of them on the way from the root.
use Rattle.std.specs.Prelude.{◌≡◌, ◌*◌, List, ℤ, length, Option, option_map, IfSome}
use Rattle.lift_pool.specs.Lanes.{last_lane}
pub use Rattle.lift_pool.specs.Shapes.{HasLane, IsSameShape}
use Rattle.lift_model.specs.Model.{ModelData, row_count}
use Rattle.lift_model.specs.Links.{LinksData}
use Rattle.corner_lift.specs.Case.{CaseData}
pub use Rattle.lift_walk.specs.Sides.{end_count}
use Rattle.lift_walk.specs.Sides.{IsMadeForSides}
use Rattle.lift_collapse.specs.Collapse.{CollapseData, IsCollapse}
use Rattle.lift_collapse.specs.Filled.{LinkedCollapse}
pub use Rattle.region_tree.specs.Lanes.{LanesData}
use Rattle.region_tree.specs.Recent.{HasAllPlaces, KeepsPlaces}
use Rattle.region_tree.specs.declared.pools.Pools.{Pools}
use Rattle.region_tree.specs.declared.room.Room.{Room}

-- the collapsed model alone, without links and table
abbrev pub collapse_of : Option LinkedCollapse → Option CollapseData
collapse_of found = option_map (λ c. c.collapse) found

-- the lanes in which vectors of a model are found: one for the numbers of the states, one for which rows are allowed, one each for the ranks and the choices of the states, and one of work space
pub record HasPools (m : ModelData) (p : Pools) : Type 0 where
  pub values : HasLane p.values (length m.states)
  pub allowed : HasLane p.allowed (row_count m)
  pub ranks : HasLane p.ranks (length m.states)
  pub picks : HasLane p.picks (length m.states)
  pub work : HasLane p.work (2 * length m.states)

-- all lanes are there, for a model and its links: one for each purpose, and places for rectangles; and a collapsed model, if there is one, is of that model
pub record HasLanes (m : ModelData) (l : LinksData) (lanes : LanesData) : Type 0 where
  pub collapse : IfSome (collapse_of lanes.collapse) (IsCollapse m)
  pub weights : HasLane lanes.weights l.weights
  pub pools : HasPools m lanes.pools
  pub decided : HasAllPlaces (2 * length m.names) lanes.decided

-- A room that is made for a case: each pool has one lane, and of sides one more can be taken for each depth below the root.
pub record IsMadeFor (k : CaseData) (l : LinksData) (room : Room) : Type 0 where
  pub lanes : HasLanes k.model l room.lanes
  pub sides : IsMadeForSides k room.sides

-- the lanes in which vectors are found have the shape that they had
pub record KeepsPools (old new : Pools) : Type 0 where
  pub values : IsSameShape old.values new.values
  pub allowed : IsSameShape old.allowed new.allowed
  pub ranks : IsSameShape old.ranks new.ranks
  pub picks : IsSameShape old.picks new.picks
  pub work : IsSameShape old.work new.work

-- the collapsed model is as it was, and the lanes have the shape that they had
pub record KeepsShape (old new : LanesData) : Type 0 where
  pub collapse : collapse_of new.collapse ≡ collapse_of old.collapse
  pub weights : IsSameShape old.weights new.weights
  pub pools : KeepsPools old.pools new.pools
  pub decided : KeepsPlaces old.decided new.decided

-- the room is as made: every pool has the shape that it had, and what its lanes hold is free, as is the table of the collapsed model
pub record IsAsMade (old new : Room) : Type 0 where
  pub sides : IsSameShape old.sides new.sides
  pub lanes : KeepsShape old.lanes new.lanes

-- the ends in the last lane of sides
abbrev pub last_sides : Room → List ℤ
last_sides room = last_lane room.sides.lanes
