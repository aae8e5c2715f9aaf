-- Cases lifted to a rectangle: a case, what is looked up of its model, and the weights of its rows at the corners of the rectangle.
use Rattle.std.specs.Prelude.{◌≡◌, ℕ, ◌<◌, false, List, ℤ, length}
use Rattle.lift_grid.specs.Rectangle.{Spans}
use Rattle.lift_model.specs.Model.{is_goal}
use Rattle.lift_model.specs.Links.{LinksData, ArePlaces, AreLinks, position}
use Rattle.corner_lift.specs.Case.{CaseData, IsCase}
use Rattle.corner_lift.specs.Table.{IsTable}

-- a case, the links of its model, and weights
pub record LiftedData : Type 0 where
  pub case : CaseData
  pub links : LinksData
  pub weights : List ℤ

-- the case of these parts
abbrev pub lifted : CaseData → LinksData → List ℤ → LiftedData
lifted k l weights = record { case = k; links = l; weights = weights }

-- the weights are those of all rows at the corners of the rectangle, which lies inside the root
abbrev pub IsLiftedTo : LiftedData → Spans → Type 0
IsLiftedTo t spans = IsTable t.case t.links spans t.weights

-- it is a case, and its rows stand at the places of the links
pub record IsPlaced (k : CaseData) (l : LinksData) : Type 0 where
  pub case : IsCase k
  pub places : ArePlaces k.model l

-- it is a case, and the links are those of its model
pub record IsLinked (k : CaseData) (l : LinksData) : Type 0 where
  pub case : IsCase k
  pub links : AreLinks k.model l

-- the state is no goal state, and stands at that position
pub record StandsAt (k : CaseData) (l : LinksData) (at s : ℕ) : Type 0 where
  pub state : s < length k.model.states
  pub goal : is_goal k.model s ≡ false
  pub is : position l s ≡ at
