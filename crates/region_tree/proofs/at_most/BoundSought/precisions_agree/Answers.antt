use Rattle.region_tree.proofs.Ranges.{precisions_agree}
use Rattle.region_tree.proofs.at_most.BoundSought.precisions_agree.Goals as goal

pub returns : goal.returns
returns c =
    let law = c.certificates_double.ensures in
    precisions_agree c.lower_precisions_are_cases.ensures c.ranks_fit.ensures.any law.none_accepts law.none_rejects c.args.case.now c.args.self.now c.w.ensures.case
