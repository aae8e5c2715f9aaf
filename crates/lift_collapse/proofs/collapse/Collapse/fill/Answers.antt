use Rattle.std.proofs.Common.{rules}
use Rattle.lift_collapse.proofs.Cases.{case_with}
use Rattle.lift_collapse.proofs.collapse.Collapse.fill.Goals as goal

pub fill_over-requires-clause-case : goal.fill_over-requires-clause-case
fill_over-requires-clause-case c =
    case_with c.args.case.now c.args.self.now.collapse _ (search rules) (c.collapses_spread.ensures.case c.args.case.now c.args.self.now.collapse c.model.ensures.case c.requires.collapse)
