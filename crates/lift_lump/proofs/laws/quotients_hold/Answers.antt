use Rattle.lift_lump.proofs.Holding.{quotients_reach}
use Rattle.lift_lump.proofs.Chains.{one_plan, a_plan}
use Rattle.lift_lump.proofs.laws.quotients_hold.Goals as goal

pub returns : goal.returns
returns c = record { same = quotients_reach c.weights_follow.ensures.terms; plans = one_plan; some = a_plan }
