-- Tables don't hang on the precision.
use Rattle.std.proofs.Common.{ℕ, Option, Some, None, IfSome, List, ℤ}
use Rattle.lift_grid.specs.Rectangle.{Spans}
use Rattle.lift_model.specs.Links.{LinksData}
use Rattle.corner_lift.specs.Case.{CaseData, at}
use Rattle.lift_collapse.specs.Filled.{LinkedCollapse, IsFilled}
use Rattle.region_tree.specs.Decided.{CanAsk}

pub ask_at : (k : CaseData) (u : ℕ) (l : LinksData) (ss : Spans) (weights : List ℤ) → CanAsk k l ss weights → CanAsk (at k u) l ss weights
ask_at k u l ss weights h = record { links = h.links; table = record { inside = h.table.inside; same = h.table.same } }

pub filled_at : (k : CaseData) (u : ℕ) (ss : Spans) (found : Option LinkedCollapse) → IfSome found (IsFilled k ss) → IfSome found (IsFilled (at k u) ss)
filled_at k u ss (Some c) h = record { collapse = h.collapse; table = record { inside = h.table.inside; same = h.table.same } }
filled_at k u ss None h = h
