use Rattle.std.proofs.Common.{refl}
use Rattle.lift_cost.proofs.Ready.{still_ready}
use Rattle.lift_cost.proofs.decider.CostDeciderDecider.decide.Goals as goal

pub decide-requires : goal.decide-requires
decide-requires c = let ready = c.requires.ready.1 in (refl, (ready.can, (ready.has, c.requires.sides)))
