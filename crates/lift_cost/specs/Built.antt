-- A tree that was built, as the tree that definitions speak of.
use Rattle.std.specs.Prelude.{List, ℤ}
use Rattle.lift_walk.specs.Halved.{Halved}
use Rattle.lift_cost.specs.declared.building.CostBranch.{CostBranch, Split', Accept, Unknown}

-- the tree below a branch
abbrev pub halved_of : CostBranch → Halved (List ℤ)
halved_of (Split' axis p lower q upper) = Halved.split axis (halved_of lower) (halved_of upper)
halved_of (Accept z) = Halved.leaf z
halved_of Unknown = Halved.unknown
