use Rattle.std.proofs.Common.{rules, to_z-of_z, SFits}
use mir.Syntax.{w128}
use Rattle.lift_dual.proofs.Ranking.{leads_is}
use Rattle.lift_dual.proofs.ranks.leads_below.Goals as goal

pub returns : goal.returns
returns g c =
    let fits : SFits w128 c.least_into.result.sum = search rules in
    let least = rw c.case.ensures at c.least_into.ensures.least in
    let is = leads_is c.rows_at_corners.ensures.parameters c.args.rows.now.case g.spans c.requires.0.inside c.args.ranks.now c.args.s c.args.a c.args.below c.least_into.result.sum least in
    let test = rw (to_z-of_z fits) at c.is_positive.ensures in
    (λ e. is.0 (test.0 e), λ leads. test.1 (is.1 leads))
