use Rattle.std.proofs.Common.{rules, SFits, w64, to_z-of_z}
use mir.Syntax.{w128}
use Rattle.corner_lift.specs.Case.{number}
use Rattle.rounded_iter.proofs.Solving.{laws_of, number_small, extreme_least, extreme_most, first_solved}
use Rattle.rounded_iter.proofs.table.Table.enough_for_row.Goals as goal

pub rounded_up_from-requires-clause-room : goal.rounded_up_from-requires-clause-room
rounded_up_from-requires-clause-room g c =
    let r = c.requires.can in
    let whole_is = c.weigh-sum.ensures.whole in
    let number_fits : SFits w64 (number c.args.lane.now c.args.s) = search rules in
    let whole_fits : SFits w128 c.weigh-sum.result.whole = search rules in
    rw (to_z-of_z number_fits, to_z-of_z whole_fits) (whole_is.room _ (number_small (laws_of c.rows_at_corners.ensures.parameters c.rows_at_corners.ensures.numbers c.rows_at_corners.ensures.range c.rows_at_corners.ensures.rise c.corners_bound_weights.ensures.sum) c.args.self.now.case g.spans r.read.case r.read.table.inside c.args.s c.args.a r.row c.args.lane.now r.numbers))

pub rounded_up_from-requires-clause-least : goal.rounded_up_from-requires-clause-least
rounded_up_from-requires-clause-least g c =
    let r = c.requires.can in
    let sum_fits : SFits w128 c.weigh-sum.result.sum = search rules in
    rw (to_z-of_z sum_fits) (extreme_least (laws_of c.rows_at_corners.ensures.parameters c.rows_at_corners.ensures.numbers c.rows_at_corners.ensures.range c.rows_at_corners.ensures.rise c.corners_bound_weights.ensures.sum) c.args.self.now.case g.spans r.read.case r.read.table.inside c.args.s c.args.a r.row c.args.lane.now r.numbers _ c.weigh-sum.result.sum c.weigh-sum.ensures.extreme)

pub rounded_up_from-requires-clause-most : goal.rounded_up_from-requires-clause-most
rounded_up_from-requires-clause-most g c =
    let r = c.requires.can in
    let whole_is = c.weigh-sum.ensures.whole in
    let sum_fits : SFits w128 c.weigh-sum.result.sum = search rules in
    let whole_fits : SFits w128 c.weigh-sum.result.whole = search rules in
    rw (to_z-of_z sum_fits, to_z-of_z whole_fits, whole_is.value) (extreme_most (laws_of c.rows_at_corners.ensures.parameters c.rows_at_corners.ensures.numbers c.rows_at_corners.ensures.range c.rows_at_corners.ensures.rise c.corners_bound_weights.ensures.sum) c.args.self.now.case g.spans r.read.case r.read.table.inside c.args.s c.args.a r.row c.args.lane.now r.numbers _ c.weigh-sum.result.sum c.weigh-sum.ensures.extreme (rw whole_is.value at whole_is.positive))

pub returns : goal.returns
returns g c =
    let r = c.requires.can in
    let whole_is = c.weigh-sum.ensures.whole in
    let sum = c.weigh-sum.result.sum in
    let number_fits : SFits w64 (number c.args.lane.now c.args.s) = search rules in
    let whole_fits : SFits w128 c.weigh-sum.result.whole = search rules in
    let sum_fits : SFits w128 c.weigh-sum.result.sum = search rules in
    let result_fits : SFits w64 c.rounded_up_from.result = search rules in
    let found = rw (to_z-of_z number_fits, to_z-of_z sum_fits, to_z-of_z whole_fits, whole_is.value) at c.rounded_up_from.ensures in
    rw (to_z-of_z result_fits)
    (first_solved (laws_of c.rows_at_corners.ensures.parameters c.rows_at_corners.ensures.numbers c.rows_at_corners.ensures.range c.rows_at_corners.ensures.rise c.corners_bound_weights.ensures.sum) c.args.self.now.case g.spans r.read.case r.read.table.inside c.args.s c.args.a r.row c.args.lane.now r.numbers _ sum c.weigh-sum.ensures.extreme c.requires.other (rw whole_is.value at whole_is.positive) c.rounded_up_from.result found)
