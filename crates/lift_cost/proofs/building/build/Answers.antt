use Rattle.lift_cost.specs.Decided.{AskedCost}
use Rattle.lift_cost.proofs.Trees.{leaf_is_one, decided_not_open}
use Rattle.lift_cost.proofs.building.build.Goals as goal

pub build_tree-requires-clause-leaves : goal.build_tree-requires-clause-leaves
build_tree-requires-clause-leaves c =
    let a : AskedCost = record { costs = c.args.costs.now; cap = c.args.cap; budget = record { num = c.args.budget.num; den = c.args.budget.den } } in
    record {
      one = λ spans l m inside. leaf_is_one c.args.case.now a spans l m;
      none = λ spans l inside. decided_not_open c.args.case.now a spans l;
    }
