use Rattle.property_tree.proofs.Deciding.{found_over}
use Rattle.property_tree.proofs.Ready.{still_ready}
use Rattle.property_tree.proofs.decider.RangeDeciderDecider.decide.Goals as goal

pub decide-requires : goal.decide-requires
decide-requires c = let ready = c.requires.ready.1 in record { links = ready.1.links; from = ready.0; lanes = ready.1.has; sides = c.requires.sides; known = ready.1.known }

pub returns-clause-ready : goal.returns-clause-ready
returns-clause-ready c made ready =
    let q = c.args.self.now.question.now in
    let law = c.lanes_keep_their_shape.ensures in
    (ready.0, still_ready law.lanes law.chain q.case.now q.links.now q.op q.bound made c.args.room.now c.decide.new.lanes c.decide.ensures.shape c.decide.ensures.known ready.1)

pub returns-clause-decided : goal.returns-clause-decided
returns-clause-decided c =
    let q = c.args.self.now.question.now in
    found_over q.case.now c.args.self.now.from q.op q.bound _ c.decide.new.lanes.pools c.decide.result c.decide.ensures.found
