use Rattle.lift_finer.proofs.Refining.{refined_bases_are_certified}
use Rattle.lift_finer.proofs.laws.refined_bases_are_certified.Goals as goal

pub returns : goal.returns
returns c = refined_bases_are_certified
