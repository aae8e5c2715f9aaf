use Rattle.std.proofs.Common.{rules, sym, subst}
use Rattle.corner_lift.specs.Case.{IsCase}
use Rattle.lift_collapse.proofs.Cases.{same_case}
use Rattle.lift_collapse.proofs.collapse.Collapse.guess.Goals as goal

pub new-inner-requires : goal.new-inner-requires
new-inner-requires g c =
    subst IsCase (sym (same_case c.args.case.now c.args.self.now.collapse _ c.grid.result c.root.result.now c.w.result (search rules) c.root.ensures.value c.grid.ensures.d c.grid.ensures.depth c.w.ensures.value)) (c.collapses_spread.ensures.case c.args.case.now c.args.self.now.collapse c.model.ensures.case c.requires.0.collapse)
