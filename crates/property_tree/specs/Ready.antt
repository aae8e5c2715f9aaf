-- When a walk's lanes are ready for a decision.
use Rattle.lift_model.specs.Links.{LinksData, AreLinks}
use Rattle.corner_lift.specs.Case.{CaseData}
use Rattle.lift_cert.specs.declared.bound.Bound.{Bound}
use Rattle.property_text.specs.declared.op.Op.{Op}
use Rattle.region_tree.specs.Rooms.{LanesData, HasLanes, KeepsShape}
use Rattle.region_tree.specs.Sides.{AreKnown}
use Rattle.property_tree.specs.Decided.{sought_of}

-- The lanes are those that were made for a case, and what is noted tells of other rectangles. What else they hold is free.
pub record AreReadyFor (k : CaseData) (l : LinksData) (op : Op) (bound : Bound) (made lanes : LanesData) : Type 0 where
  pub links : AreLinks k.model l
  pub has : HasLanes k.model l lanes
  pub shape : KeepsShape made lanes
  pub known : AreKnown (sought_of op bound) k lanes.decided
