use Rattle.property_tree.proofs.Doubling.{precisions_agree}
use Rattle.property_tree.proofs.decision.ComparisonSought.precisions_agree.Goals as goal

pub returns : goal.returns
returns c =
    let law = c.vectors_double.ensures in
    precisions_agree law.upper law.upper_one law.lower law.lower_all law.unbounded law.low law.high c.args._case.now c.args.self.now.op c.args.self.now.bound
