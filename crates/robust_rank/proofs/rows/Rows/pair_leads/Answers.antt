use Rattle.std.proofs.Common.{◌<◌, refl, ◌*ℤ◌, rules, SFits, w64, to_z-of_z}
use Rattle.lift_model.specs.Model.{row_at}
use Rattle.lift_model.specs.Links.{targets_of}
use Rattle.corner_lift.specs.Certificate.{mark}
use Rattle.robust_rank.proofs.Doubling.{leads_is}
use Rattle.robust_rank.proofs.Below.{only_leads}
use Rattle.robust_rank.proofs.Only.{all_two, only_choice, pair_inside, scaled_some, some_scaled}
use Rattle.robust_rank.proofs.rows.Rows.pair_leads.Goals as goal

pub are_both_below-requires : goal.are_both_below-requires
are_both_below-requires g c = pair_inside c.args.self.now.case.now c.args.self.now.links.now c.args.s _ c.args.row c.w.ensures.case c.requires.1.1.0 c.requires.1.1.1.0 c.requires.1.1.1.1

pub returns-then-are_both_below : goal.returns-then-are_both_below
returns-then-are_both_below g c =
    let row = c.requires.1.1.1.0 in
    let both = c.are_both_below.ensures c.if-are_both_below.true in
    let all = all_two (λ t. mark c.args.ranks.now t < c.args.below) (targets_of (row_at c.args.self.now.case.now.model c.args.s 0)) c.args.row.first c.args.row.second row.targets both.0 both.1 in
    let leads = only_leads c.args.self.now.case.now g.spans c.w.ensures.case c.requires.1.0.inside c.rows_at_corners.ensures.parameters c.rows_at_corners.ensures.least (mark c.args.ranks.now) c.args.below c.args.s 0 (only_choice c.args.self.now.case.now.model c.args.s c.requires.1.1.0 row.only) all in
    (λ is. leads, λ is. refl)

pub returns : goal.returns
returns g c =
    let row = c.in_ok-row.row in
    let found = c.in_ok-row.ensures in
    let is = leads_is c.args.self.now.case.now g.spans c.requires.1.0.inside c.args.ranks.now c.args.s 0 c.rows_at_corners.ensures.parameters c.args.below (row.sum *ℤ row.scale) found.least in
    let fits : SFits w64 row.sum = search rules in
    let test = rw (to_z-of_z fits) at c.is_some.ensures in
    (λ e. is.0 (scaled_some row.sum row.scale found.whole.1.0 (test.0 e)), λ leads. test.1 (some_scaled row.sum row.scale found.whole.1.0 (is.1 leads)))
