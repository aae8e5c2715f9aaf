use Rattle.std.proofs.Common.{refl, sym, subst}
use Rattle.corner_lift.specs.Case.{IsCase}
use Rattle.cert_text.specs.Head.{case_at}
use Rattle.cert_check.proofs.Precise.{lower_case}
use Rattle.cert_check.proofs.Steps.{case_same}
use Rattle.cert_check.proofs.nodes.asked_at.Goals as goal

pub new-requires : goal.new-requires
new-requires c =
    let k = c.args.report.now.case.now in
    let same = case_same (case_at c.args.u k) c.model.result.now c.root.result.now c.grid.result c.args.u c.model.ensures.value c.root.ensures.value c.grid.ensures.d c.grid.ensures.depth refl in
    subst IsCase (sym same) (lower_case k c.args.u c.model.ensures.case c.requires.0 c.requires.1)
