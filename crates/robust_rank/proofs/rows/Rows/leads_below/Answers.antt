use Rattle.std.proofs.Common.{rules, to_z-of_z, SFits, refl}
use mir.Syntax.{w128}
use Rattle.corner_lift.specs.Certificate.{mark}
use Rattle.robust_rank.proofs.Doubling.{leads_is}
use Rattle.robust_rank.proofs.Below.{only_leads}
use Rattle.robust_rank.proofs.rows.Rows.leads_below.Goals as goal

pub returns-then-leads_only_below : goal.returns-then-leads_only_below
returns-then-leads_only_below g c =
    let leads = only_leads c.args.self.now.case.now g.spans c.w.ensures.case c.requires.1.0.inside c.rows_at_corners.ensures.parameters c.rows_at_corners.ensures.least (mark c.args.ranks.now) c.args.below c.args.s c.args.a c.requires.1.1.0 (c.leads_only_below.ensures c.if-leads_only_below.true) in
    (λ is. leads, λ is. refl)

pub returns : goal.returns
returns g c =
    let fits : SFits w128 c.least_into.result.sum = search rules in
    let is = leads_is c.args.self.now.case.now g.spans c.requires.1.0.inside c.args.ranks.now c.args.s c.args.a c.rows_at_corners.ensures.parameters c.args.below c.least_into.result.sum c.least_into.ensures.least in
    let test = rw (to_z-of_z fits) at c.is_positive.ensures in
    (λ e. is.0 (test.0 e), λ leads. test.1 (is.1 leads))
