use Rattle.robust_rank.proofs.Below.{targets_inside}
use Rattle.robust_rank.proofs.rows.Rows.leads_only_below.Goals as goal

pub are_below-requires : goal.are_below-requires
are_below-requires c = rw c.targets.ensures
    (targets_inside c.args.self.now.case.now c.args.s c.args.a _ c.w.ensures.case c.requires.row c.requires.ranks)
