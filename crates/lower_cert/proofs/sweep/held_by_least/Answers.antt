use Rattle.std.proofs.Common.{rules, SFits, w64, to_z-of_z}
use mir.Syntax.{w128}
use Rattle.lower_cert.proofs.Sweeping.{holds_no_more, sum_room}
use Rattle.lower_cert.proofs.sweep.held_by_least.Goals as goal

pub rounded_down-requires-clause-sum : goal.rounded_down-requires-clause-sum
rounded_down-requires-clause-sum g c =
    let fits : SFits w128 c.table_least-sum.result.sum = search rules in
    rw (to_z-of_z fits) (sum_room c.rows_at_corners.ensures.range c.args.rows.now.case g.spans c.args.lane.now c.args.s c.args.a c.table_least-sum.result.sum c.w.ensures.case c.requires.0.table.inside c.requires.1 c.requires.0.numbers c.table_least-sum.ensures.least c.table_least-sum.result.whole c.table_least-sum.ensures.whole.value c.table_least-sum.ensures.whole.positive).0

pub rounded_down-requires-clause-most : goal.rounded_down-requires-clause-most
rounded_down-requires-clause-most g c =
    let fits : SFits w128 c.table_least-sum.result.sum = search rules in
    let whole_fits : SFits w128 c.table_least-sum.result.whole = search rules in
    rw (to_z-of_z fits, to_z-of_z whole_fits) (sum_room c.rows_at_corners.ensures.range c.args.rows.now.case g.spans c.args.lane.now c.args.s c.args.a c.table_least-sum.result.sum c.w.ensures.case c.requires.0.table.inside c.requires.1 c.requires.0.numbers c.table_least-sum.ensures.least c.table_least-sum.result.whole c.table_least-sum.ensures.whole.value c.table_least-sum.ensures.whole.positive).1

pub returns-clause-most : goal.returns-clause-most
returns-clause-most g c =
    let fits : SFits w128 c.table_least-sum.result.sum = search rules in
    let whole_fits : SFits w128 c.table_least-sum.result.whole = search rules in
    let result_fits : SFits w64 c.rounded_down.result = search rules in
    rw (to_z-of_z result_fits) (holds_no_more c.rows_at_corners.ensures.parameters c.args.rows.now.case g.spans c.args.lane.now c.args.s c.args.a c.table_least-sum.result.sum c.rounded_down.result c.requires.0.table.inside c.table_least-sum.ensures.least (rw (to_z-of_z fits, to_z-of_z whole_fits, c.table_least-sum.ensures.whole.value) at c.rounded_down.ensures.quotient.1))
