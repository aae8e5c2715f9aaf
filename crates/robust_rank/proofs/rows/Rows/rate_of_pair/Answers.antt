use Rattle.std.proofs.Common.{◌<◌, arith, pos, ◌*ℤ◌, ◌<ℤ◌, rules, SFits, w64, to_z-of_z}
use Rattle.lift_poly.proofs.Ring.{linear}
use Rattle.lift_model.specs.Model.{row_at}
use Rattle.lift_model.specs.Links.{targets_of}
use Rattle.corner_lift.specs.Certificate.{mark}
use Rattle.robust_rank.proofs.Doubling.{leads_is, row_rate}
use Rattle.robust_rank.proofs.Below.{only_rate}
use Rattle.robust_rank.proofs.Only.{all_two, first_scaled, only_choice, pair_inside, some_scaled}
use Rattle.robust_rank.proofs.rows.Rows.rate_of_pair.Goals as goal

pub are_both_below-requires : goal.are_both_below-requires
are_both_below-requires g c = pair_inside c.args.self.now.case.now c.args.self.now.links.now c.args.s _ c.args.row c.w.ensures.case c.requires.1.1.0 c.requires.1.1.1.0 c.requires.1.1.1.1.0

pub returns-then-are_both_below-clause-least : goal.returns-then-are_both_below-clause-least
returns-then-are_both_below-clause-least g c =
    let k = c.args.self.now.case.now in
    let row = c.requires.1.1.1.0 in
    let both = rw c.mark_of-rank.ensures at (c.are_both_below.ensures c.if-are_both_below.true) in
    let all = all_two (λ t. mark c.args.ranks.now t < mark c.args.ranks.now c.args.s) (targets_of (row_at k.model c.args.s 0)) c.args.row.first c.args.row.second row.targets both.0 both.1 in
    only_rate k g.spans c.w.ensures.case c.requires.1.0.inside c.rows_at_corners.ensures.parameters c.rows_at_corners.ensures.least c.args.ranks.now c.args.s 0 c.args.first (only_choice k.model c.args.s c.requires.1.1.0 row.only) all

pub short_doublings-requires-clause-weight : goal.short_doublings-requires-clause-weight
short_doublings-requires-clause-weight g c =
    let row = c.in_ok-row.row in
    let found = c.in_ok-row.ensures in
    let is = leads_is c.args.self.now.case.now g.spans c.requires.1.0.inside c.args.ranks.now c.args.s 0 c.rows_at_corners.ensures.parameters _ (row.sum *ℤ row.scale) (rw c.mark_of-rank.ensures at found.least) in
    let some : pos 0 <ℤ row.sum = some_scaled row.sum row.scale found.whole.1.0 (is.1 c.requires.1.1.1.1.1.0) in
    let fits : SFits w64 row.sum = search rules in
    rw (to_z-of_z fits) (omega (arith, linear, some))

pub returns-clause-least : goal.returns-clause-least
returns-clause-least g c =
    let row = c.in_ok-row.row in
    let found = c.in_ok-row.ensures in
    let sum_fits : SFits w64 row.sum = search rules in
    let whole_fits : SFits w64 row.whole = search rules in
    let doubled = rw (to_z-of_z sum_fits, to_z-of_z whole_fits) at c.short_doublings.ensures.least in
    row_rate c.args.self.now.case.now g.spans c.requires.1.0.inside c.args.ranks.now c.args.s 0 c.rows_at_corners.ensures.parameters c.args.first c.short_doublings.result (row.sum *ℤ row.scale) (row.whole *ℤ row.scale) (rw c.mark_of-rank.ensures at found.least) found.whole.1.1.value
    (first_scaled row.sum row.whole row.scale c.args.first c.short_doublings.result found.whole.1.0 doubled)
