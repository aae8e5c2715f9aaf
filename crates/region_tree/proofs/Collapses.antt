-- A collapsed model that may be found.
use Rattle.std.proofs.Common.{Option, Some, None, IfSome}
use Rattle.lift_model.specs.Model.{ModelData}
use Rattle.lift_collapse.specs.Collapse.{IsCollapse}
use Rattle.lift_collapse.specs.Filled.{LinkedCollapse}
use Rattle.region_tree.specs.Rooms.{collapse_of}

pub found_of : (m : ModelData) (found : Option LinkedCollapse) → IfSome found (λ c. IsCollapse m c.collapse) → IfSome (collapse_of found) (IsCollapse m)
found_of m (Some c) h = h
found_of m None h = h
