use Rattle.property_tree.proofs.Single.{each_one}
use Rattle.property_tree.proofs.Ready.{ready_at_first}
use Rattle.property_tree.proofs.building.build.Goals as goal

pub build_tree-requires-clause-leaves : goal.build_tree-requires-clause-leaves
build_tree-requires-clause-leaves c = each_one c.leaves_are_one.ensures c.args.case.now c.args.op c.args.bound c.w.ensures.case

pub build_tree-requires-clause-ready : goal.build_tree-requires-clause-ready
build_tree-requires-clause-ready c =
    let k = c.args.case.now in
    let law = c.lanes_keep_their_shape.ensures in
    rw c.forget.ensures (ready_at_first law.lanes law.chain k c.args.links.now c.args.op c.args.bound law.forgetting _ law.stays c.requires c.in_ok-room.ensures.made.lanes)
