use Rattle.lift_grid.specs.Rectangle.{spans_of}
use Rattle.std.proofs.Common.{arith}
use Rattle.region_tree.specs.Sides.{IsDecidedOver}
use Rattle.property_tree.specs.Decided.{sought_of}
use Rattle.property_tree.proofs.Deciding.{found_alone, open_alone}
use Rattle.property_tree.proofs.Ready.{still_ready}
use Rattle.property_tree.proofs.decider.PropertyDeciderDecider.decide.Goals as goal

pub decide-requires : goal.decide-requires
decide-requires c =
    let k = c.args.self.now.question.now.case.now in
    let ready = c.requires.ready.1 in
    let value = c.w.ensures.value in
    record { links = ready.links; from = (omega (arith, value, c.w.ensures.case.asked.precision.0), omega (arith, value)); lanes = ready.has; sides = c.requires.sides; known = ready.known }

pub returns-in-Some-clause-ready : goal.returns-in-Some-clause-ready
returns-in-Some-clause-ready c made ready =
    let q = c.args.self.now.question.now in
    let law = c.lanes_keep_their_shape.ensures in
    still_ready law.lanes law.chain q.case.now q.links.now q.op q.bound made c.args.room.now c.decide.new.lanes c.decide.ensures.shape c.decide.ensures.known ready

pub returns-in-None-clause-ready : goal.returns-in-None-clause-ready
returns-in-None-clause-ready c made ready =
    let q = c.args.self.now.question.now in
    let law = c.lanes_keep_their_shape.ensures in
    still_ready law.lanes law.chain q.case.now q.links.now q.op q.bound made c.args.room.now c.decide.new.lanes c.decide.ensures.shape c.decide.ensures.known ready

pub returns-in-Some-clause-decided : goal.returns-in-Some-clause-decided
returns-in-Some-clause-decided c =
    let q = c.args.self.now.question.now in
    let pools = c.decide.new.lanes.pools in
    let h : IsDecidedOver (sought_of q.op q.bound) q.case.now q.case.now.w (spans_of c.args.sides.now) pools c.in-Some.field-0 = rw (c.w.ensures.value, c.in-Some.is) at c.decide.ensures.found in
    found_alone q.case.now q.op q.bound (spans_of c.args.sides.now) pools c.in-Some.field-0 h

pub returns-in-None-clause-decided : goal.returns-in-None-clause-decided
returns-in-None-clause-decided c =
    let q = c.args.self.now.question.now in
    open_alone q.case.now q.op q.bound (spans_of c.args.sides.now) (rw (c.w.ensures.value, c.in-None.is) at c.decide.ensures.found)
