use Rattle.std.proofs.Common.{arith}
use Rattle.region_tree.proofs.recent.places_for.Goals as goal

pub filled-requires : goal.filled-requires
filled-requires c = omega (arith, c.requires)
