use Rattle.std.proofs.Common.{rules, ◌*ℤ◌, SFits, w64, to_z-of_z}
use Rattle.corner_lift.specs.Case.{number, corner_count}
use Rattle.corner_lift.specs.Quotient.{IsRoundedUpFrom, AtEachScale}
use Rattle.rounded_iter.specs.Rising.{IsSolved}
use Rattle.rounded_iter.proofs.Solving.{laws_of, extreme_least, first_solved, map_some, scaled_least, pair_choice, pair_others}
use Rattle.rounded_iter.proofs.table.Table.enough_for_only_pair.Goals as goal

pub rounded_up_from-requires-clause-least : goal.rounded_up_from-requires-clause-least
rounded_up_from-requires-clause-least g c =
    let t = c.args.self.now in
    let can = c.requires.0 in
    let has = pair_choice t.case t.links c.args.s c.args.row can.state c.requires.1 in
    let row = c.in_ok-row.row in
    let found = c.in_ok-row.ensures in
    scaled_least row.sum row.scale found.whole.1.0 (extreme_least (laws_of c.rows_at_corners.ensures.parameters c.rows_at_corners.ensures.numbers c.rows_at_corners.ensures.range c.rows_at_corners.ensures.rise c.corners_bound_weights.ensures.sum) t.case g.spans can.read.case can.read.table.inside c.args.s 0 has c.args.lane.now can.numbers t.rule.corner (row.sum *ℤ row.scale) found.extreme)

pub returns : goal.returns
returns g c =
    let t = c.args.self.now in
    let can = c.requires.0 in
    let has = pair_choice t.case t.links c.args.s c.args.row can.state c.requires.1 in
    let row = c.in_ok-row.row in
    let found = c.in_ok-row.ensures in
    let number_fits : SFits w64 (number c.args.lane.now c.args.s) = search rules in
    let first = rw (to_z-of_z number_fits) at c.rounded_up_from.ensures in
    let n = number c.args.lane.now c.args.s in
    map_some (λ v. AtEachScale (λ sum whole. IsRoundedUpFrom n sum whole v) row.sum row.whole) (λ v. IsSolved t.rule.corner t.case g.spans c.args.lane.now c.args.s 0 (corner_count t.case c.args.s 0) v) c.rounded_up_from.result
    (λ v is. first_solved (laws_of c.rows_at_corners.ensures.parameters c.rows_at_corners.ensures.numbers c.rows_at_corners.ensures.range c.rows_at_corners.ensures.rise c.corners_bound_weights.ensures.sum) t.case g.spans can.read.case can.read.table.inside c.args.s 0 has c.args.lane.now can.numbers t.rule.corner (row.sum *ℤ row.scale) found.extreme (pair_others t.case.model t.links c.args.s c.args.row c.requires.1) (rw found.whole.1.1.value at found.whole.1.1.positive) v (rw found.whole.1.1.value at (is row.scale found.whole.1.0)))
    first

pub weigh_only_pair-requires : goal.weigh_only_pair-requires
weigh_only_pair-requires g c =
    let can = c.requires.0 in
    (record { read = can.read; row = pair_choice c.args.self.now.case c.args.self.now.links c.args.s c.args.row can.state c.requires.1; numbers = can.numbers }, c.requires.1)
