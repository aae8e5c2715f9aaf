use Rattle.lift_model.proofs.Samples.{fair_plans}
use Rattle.lift_model.proofs.laws.fair_plans_reach_one_half.Goals as goal

pub returns : goal.returns
returns c = fair_plans
