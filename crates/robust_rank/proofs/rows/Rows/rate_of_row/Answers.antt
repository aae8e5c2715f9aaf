use Rattle.std.proofs.Common.{◌<◌, All, rules, to_z-of_z, SFits, subst, arith}
use mir.Syntax.{w128}
use Rattle.lift_poly.proofs.Ring.{linear}
use Rattle.lift_model.specs.Model.{row_at}
use Rattle.lift_model.specs.Links.{targets_of}
use Rattle.corner_lift.specs.Certificate.{mark}
use Rattle.robust_rank.proofs.Doubling.{leads_is, row_rate}
use Rattle.robust_rank.proofs.Below.{only_rate}
use Rattle.robust_rank.proofs.rows.Rows.rate_of_row.Goals as goal

pub doublings-requires-clause-weight : goal.doublings-requires-clause-weight
doublings-requires-clause-weight g c =
    let fits : SFits w128 c.least_into-sum.result.sum = search rules in
    let some = (leads_is c.args.self.now.case.now g.spans c.requires.1.0.inside c.args.ranks.now c.args.s c.args.a c.rows_at_corners.ensures.parameters _ c.least_into-sum.result.sum (rw c.mark_of-rank.ensures at c.least_into-sum.ensures.least)).1 c.requires.1.1.1.1.0 in
    rw (to_z-of_z fits) (omega (arith, linear, some))

pub returns-then-leads_only_below-clause-least : goal.returns-then-leads_only_below-clause-least
returns-then-leads_only_below-clause-least g c =
    let all = subst (λ rank. All (λ t. mark c.args.ranks.now t < rank) (targets_of (row_at c.args.self.now.case.now.model c.args.s c.args.a))) c.mark_of-rank.ensures (c.leads_only_below.ensures c.if-leads_only_below.true) in
    only_rate c.args.self.now.case.now g.spans c.w.ensures.case c.requires.1.0.inside c.rows_at_corners.ensures.parameters c.rows_at_corners.ensures.least c.args.ranks.now c.args.s c.args.a c.args.first c.requires.1.1.0 all

pub returns-clause-least : goal.returns-clause-least
returns-clause-least g c =
    let fits : SFits w128 c.least_into-sum.result.sum = search rules in
    let whole_fits : SFits w128 c.least_into-sum.result.whole = search rules in
    let found = simp (to_z-of_z fits, to_z-of_z whole_fits) at c.doublings.ensures.least in
    row_rate c.args.self.now.case.now g.spans c.requires.1.0.inside c.args.ranks.now c.args.s c.args.a c.rows_at_corners.ensures.parameters c.args.first c.doublings.result c.least_into-sum.result.sum c.least_into-sum.result.whole (rw c.mark_of-rank.ensures at c.least_into-sum.ensures.least) c.least_into-sum.ensures.whole.value found
