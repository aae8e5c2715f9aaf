use Rattle.lift_cost.specs.Decided.{asked}
use Rattle.lift_cost.proofs.Trees.{leaf_is_one, decided_not_open}
use Rattle.lift_cost.proofs.tree.write_tree.Goals as goal

pub write_tree-requires-clause-leaves : goal.write_tree-requires-clause-leaves
write_tree-requires-clause-leaves g c =
    let q = c.args.question.now in
    record {
      one = λ spans l m inside a b. leaf_is_one q.case.now (asked q) spans l m a b;
      none = λ spans l inside. decided_not_open q.case.now (asked q) spans l;
    }
