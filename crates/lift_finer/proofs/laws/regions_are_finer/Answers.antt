use Rattle.lift_finer.proofs.Regions.{regions_are_finer}
use Rattle.lift_finer.proofs.laws.regions_are_finer.Goals as goal

pub returns : goal.returns
returns c = regions_are_finer
