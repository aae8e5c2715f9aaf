use Rattle.std.proofs.Common.{rules, SFits, w64, to_z-of_z}
use mir.Syntax.{w128}
use Rattle.corner_lift.specs.Case.{IsCase}
use Rattle.lift_bounded.proofs.Stepping.{most_of, raised_of, room_of}
use Rattle.lift_bounded.proofs.steps.raised_by_row.Goals as goal

pub rounded_up_from-requires-clause-room : goal.rounded_up_from-requires-clause-room
rounded_up_from-requires-clause-room g c =
    let k = c.args.rows.now.case in
    let row = c.table_greatest-sum.result in
    let whole_fits : SFits w128 row.whole = search rules in
    rw (to_z-of_z c.ranges.number, to_z-of_z whole_fits) (room_of k c.args.s c.args.a c.args.number row.whole c.table_greatest-sum.ensures.whole c.requires.1.1.0 c.requires.1.1.1)

pub rounded_up_from-requires-clause-least : goal.rounded_up_from-requires-clause-least
rounded_up_from-requires-clause-least g c =
    let k = c.args.rows.now.case in
    let row = c.table_greatest-sum.result in
    let is : IsCase k = c.w.ensures.case in
    let sum_fits : SFits w128 row.sum = search rules in
    rw (to_z-of_z sum_fits) (most_of c.rows_at_corners.ensures.range k g.spans c.args.old.now c.args.s c.args.a is c.requires.0.lifted.inside c.requires.1.0 c.requires.0.numbers row.sum row.whole c.table_greatest-sum.ensures.whole c.table_greatest-sum.ensures.greatest).0

pub rounded_up_from-requires-clause-most : goal.rounded_up_from-requires-clause-most
rounded_up_from-requires-clause-most g c =
    let k = c.args.rows.now.case in
    let row = c.table_greatest-sum.result in
    let is : IsCase k = c.w.ensures.case in
    let sum_fits : SFits w128 row.sum = search rules in
    let whole_fits : SFits w128 row.whole = search rules in
    rw (to_z-of_z sum_fits, to_z-of_z whole_fits) (most_of c.rows_at_corners.ensures.range k g.spans c.args.old.now c.args.s c.args.a is c.requires.0.lifted.inside c.requires.1.0 c.requires.0.numbers row.sum row.whole c.table_greatest-sum.ensures.whole c.table_greatest-sum.ensures.greatest).1

pub returns : goal.returns
returns g c =
    let k = c.args.rows.now.case in
    let row = c.table_greatest-sum.result in
    let is : IsCase k = c.w.ensures.case in
    let sum_fits : SFits w128 row.sum = search rules in
    let whole_fits : SFits w128 row.whole = search rules in
    let result_fits : SFits w64 c.rounded_up_from.result = search rules in
    rw (to_z-of_z result_fits) (raised_of c.rows_at_corners.ensures.range k g.spans c.args.old.now c.args.s c.args.a is c.requires.0.lifted.inside c.requires.1.0 c.requires.0.numbers c.args.number row.sum row.whole c.rounded_up_from.result c.table_greatest-sum.ensures.greatest c.table_greatest-sum.ensures.whole (rw (to_z-of_z c.ranges.number, to_z-of_z sum_fits, to_z-of_z whole_fits) at c.rounded_up_from.ensures))
