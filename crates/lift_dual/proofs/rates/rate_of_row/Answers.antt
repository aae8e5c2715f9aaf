use Rattle.std.proofs.Common.{rules, to_z-of_z, SFits, arith}
use mir.Syntax.{w128}
use Rattle.lift_poly.proofs.Ring.{linear}
use Rattle.lift_dual.proofs.Ranking.{leads_is}
use Rattle.lift_dual.proofs.Doubling.{row_rate}
use Rattle.lift_dual.proofs.rates.rate_of_row.Goals as goal

pub doublings-requires-clause-weight : goal.doublings-requires-clause-weight
doublings-requires-clause-weight g c =
    let fits : SFits w128 c.least_into-sum.result.sum = search rules in
    let least = rw (c.case.ensures, c.mark_at-rank.ensures) at c.least_into-sum.ensures.least in
    let some = (leads_is c.rows_at_corners.ensures.parameters c.args.rows.now.case g.spans c.requires.0.inside c.args.ranks.now c.args.s c.args.a _ c.least_into-sum.result.sum least).1 c.requires.1.1.1.0 in
    rw (to_z-of_z fits) (omega (arith, linear, some))

pub returns-clause-least : goal.returns-clause-least
returns-clause-least g c =
    let fits : SFits w128 c.least_into-sum.result.sum = search rules in
    let whole_fits : SFits w128 c.least_into-sum.result.whole = search rules in
    let found = simp (to_z-of_z fits, to_z-of_z whole_fits) at c.doublings.ensures.least in
    let least = rw (c.case.ensures, c.mark_at-rank.ensures) at c.least_into-sum.ensures.least in
    let all = rw c.case.ensures at c.least_into-sum.ensures.whole.value in
    row_rate c.rows_at_corners.ensures.parameters c.args.rows.now.case g.spans c.requires.0.inside c.args.ranks.now c.args.s c.args.a c.args.first c.doublings.result c.least_into-sum.result.sum c.least_into-sum.result.whole least all found
