use Rattle.std.proofs.Common.{refl}
use Rattle.lift_bounded.proofs.Shapes.{still_ready}
use Rattle.lift_bounded.proofs.decider.StepDeciderDecider.decide.Goals as goal

pub decide_over-requires : goal.decide_over-requires
decide_over-requires c = let ready = c.requires.ready.1 in (refl, (ready.0, (ready.1, c.requires.sides)))

pub returns-clause-ready : goal.returns-clause-ready
returns-clause-ready c made ready =
    let d = c.args.self.now in
    still_ready d.case.now d.links.now d.steps made c.args.room.now c.decide_over.new.lanes c.decide_over.ensures.shape ready
