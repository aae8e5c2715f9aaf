use Rattle.lift_bounded.proofs.Single.{decided_not_open, leaf_is_one}
use Rattle.lift_bounded.proofs.tree.write_tree.Goals as goal

pub write_tree-requires-clause-leaves : goal.write_tree-requires-clause-leaves
write_tree-requires-clause-leaves g c =
    let k = c.args.case.now in
    let h = c.room.inside.steps in
    let single = c.certificates_by_steps_are_one.ensures in
    record {
      one = λ spans l m inside. leaf_is_one k c.args.bound h single.least single.greatest spans l m;
      none = λ spans l inside. decided_not_open k c.args.bound h spans l;
    }

pub returns-clause-wrote : goal.returns-clause-wrote
returns-clause-wrote g c = rw (← c.room.view_is) c.write_tree.ensures.wrote
