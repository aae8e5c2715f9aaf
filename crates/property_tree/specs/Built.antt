-- A tree that was built, as the tree that definitions speak of.
use Rattle.std.specs.Prelude.{[]}
use Rattle.lift_walk.specs.Halved.{Halved}
use Rattle.property_tree.specs.Leaves.{PropertyLeaf}
use Rattle.property_tree.specs.declared.building.DualBranch.{DualBranch, Split', Upper, UpperOne, Lower, LowerAll, Unknown}

-- the tree below a branch
abbrev pub halved_of : DualBranch → Halved PropertyLeaf
halved_of (Split' axis p lower q upper) = Halved.split axis (halved_of lower) (halved_of upper)
halved_of (Upper x) = Halved.leaf (PropertyLeaf.upper x)
halved_of (UpperOne x picks) = Halved.leaf (PropertyLeaf.upper_one x picks)
halved_of (Lower e k y picks ranks) = Halved.leaf (PropertyLeaf.lower (record { numbers = y; picks = picks; ranks = ranks; e = e; k = k }))
halved_of (LowerAll e k y ranks) = Halved.leaf (PropertyLeaf.lower_all (record { numbers = y; picks = []; ranks = ranks; e = e; k = k }))
halved_of Unknown = Halved.unknown
