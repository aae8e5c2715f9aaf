-- What is found on, rectangle by rectangle: a collapsed model, its links, and the table of a rectangle.
use Rattle.std.specs.Prelude.{List, ℤ}
use Rattle.lift_grid.specs.Rectangle.{Spans}
use Rattle.lift_model.specs.Links.{LinksData}
use Rattle.corner_lift.specs.Case.{CaseData}
use Rattle.corner_lift.specs.Table.{IsTable}
use Rattle.lift_collapse.specs.Collapse.{CollapseData, IsCollapse, collapsed}

-- a collapsed model with its links, and the weights of its rows
pub record LinkedCollapse : Type 0 where
  pub collapse : CollapseData
  pub links : LinksData
  pub weights : List ℤ

-- it is the collapse of the case's model, and its weights are the table of the rectangle
pub record IsFilled (k : CaseData) (spans : Spans) (l : LinkedCollapse) : Type 0 where
  pub collapse : IsCollapse k.model l.collapse
  pub table : IsTable (collapsed k l.collapse) l.links spans l.weights
