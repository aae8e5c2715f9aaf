use Rattle.std.proofs.Common.{rules, SFits, w64, to_z-of_z, arith}
use Rattle.lift_poly.proofs.Ring.{linear}
use Rattle.lift_cost.proofs.question.CostQuestion.find.Goals as goal

pub returns-clause-open : goal.returns-clause-open
returns-clause-open g c e z certificate =
    let k = c.args.self.now.case.now in
    let fits : SFits w64 c.limit.result = search rules in
    let past = rw (to_z-of_z fits) at (c.least_cost_within.ensures.past e z certificate.priced) in
    let within = c.limit.ensures _ (c.rows_at_corners.ensures.numbers k z k.model.init certificate.priced.numbers) certificate.limit in
    absurd (omega (arith, linear, past, within))
