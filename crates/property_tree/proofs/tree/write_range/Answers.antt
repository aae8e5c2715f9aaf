use Rattle.property_tree.proofs.Single.{each_range_one}
use Rattle.property_tree.proofs.Ready.{kept_since, ready_at_first}
use Rattle.property_tree.proofs.tree.write_range.Goals as goal

pub write_tree-requires-clause-leaves : goal.write_tree-requires-clause-leaves
write_tree-requires-clause-leaves g c =
    let q = c.args.question.now in
    each_range_one c.range_leaves_are_one.ensures q.case.now c.args.from q.op q.bound c.w.ensures.case c.requires.from.0

pub write_tree-requires-clause-ready : goal.write_tree-requires-clause-ready
write_tree-requires-clause-ready g c =
    let q = c.args.question.now in
    let law = c.lanes_keep_their_shape.ensures in
    (c.requires.from, rw c.forget.ensures (ready_at_first law.lanes law.chain q.case.now q.links.now q.op q.bound law.forgetting c.args.room.now.lanes law.stays c.requires.links c.requires.made.lanes))

pub returns-clause-room : goal.returns-clause-room
returns-clause-room g c =
    let q = c.args.question.now in
    let law = c.lanes_keep_their_shape.ensures in
    record {
      sides = c.write_tree.ensures.sides;
      lanes = kept_since law.lanes law.chain q.case.now q.links.now q.op q.bound law.forgetting c.args.room.now.lanes c.write_tree.new.room (let ready = rw c.forget.ensures at c.write_tree.ensures.ready in ready.1);
    }
