use Rattle.std.proofs.Common.{rules, SFits, w64, to_z-of_z}
use mir.Syntax.{w128}
use Rattle.corner_lift.specs.Case.{IsCase}
use Rattle.lift_bounded.proofs.Stepping.{most_of_least, held_by}
use Rattle.lift_bounded.proofs.steps.held_by_row.Goals as goal

pub rounded_down-requires-clause-sum : goal.rounded_down-requires-clause-sum
rounded_down-requires-clause-sum g c =
    let k = c.args.rows.now.case in
    let row = c.table_least-sum.result in
    let is : IsCase k = c.w.ensures.case in
    let sum_fits : SFits w128 row.sum = search rules in
    rw (to_z-of_z sum_fits) (most_of_least c.rows_at_corners.ensures.range k g.spans c.args.old.now c.args.s c.args.a is c.requires.0.lifted.inside c.requires.1 c.requires.0.numbers row.sum row.whole c.table_least-sum.ensures.whole c.table_least-sum.ensures.least).0

pub rounded_down-requires-clause-most : goal.rounded_down-requires-clause-most
rounded_down-requires-clause-most g c =
    let k = c.args.rows.now.case in
    let row = c.table_least-sum.result in
    let is : IsCase k = c.w.ensures.case in
    let sum_fits : SFits w128 row.sum = search rules in
    let whole_fits : SFits w128 row.whole = search rules in
    rw (to_z-of_z sum_fits, to_z-of_z whole_fits) (most_of_least c.rows_at_corners.ensures.range k g.spans c.args.old.now c.args.s c.args.a is c.requires.0.lifted.inside c.requires.1 c.requires.0.numbers row.sum row.whole c.table_least-sum.ensures.whole c.table_least-sum.ensures.least).1

pub returns : goal.returns
returns g c =
    let k = c.args.rows.now.case in
    let row = c.table_least-sum.result in
    let is : IsCase k = c.w.ensures.case in
    let sum_fits : SFits w128 row.sum = search rules in
    let whole_fits : SFits w128 row.whole = search rules in
    let result_fits : SFits w64 c.rounded_down.result = search rules in
    rw (to_z-of_z result_fits) (held_by c.rows_at_corners.ensures.range k g.spans c.args.old.now c.args.s c.args.a is c.requires.0.lifted.inside c.requires.1 c.requires.0.numbers row.sum row.whole c.rounded_down.result c.table_least-sum.ensures.least c.table_least-sum.ensures.whole (rw (to_z-of_z sum_fits, to_z-of_z whole_fits) at c.rounded_down.ensures.quotient))
