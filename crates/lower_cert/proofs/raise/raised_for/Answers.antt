use Rattle.std.proofs.Common.{rules, ◌^◌, ◌≤◌, SFits, w64, to_z-of_z, unsigned_abs, arith}
use mir.Syntax.{w128}
use Rattle.std.proofs.lemmas.Int.{ints}
use Rattle.corner_lift.specs.Case.{number}
use Rattle.lower_cert.proofs.Sweeping.{sum_room, target_inside}
use Rattle.lower_cert.proofs.raise.raised_for.Goals as goal

pub bounds-lane-target : goal.bounds-lane-target
bounds-lane-target g c = target_inside c.args.rows.now.case c.args.s c.args.a c.in-Some.target _ c.w.ensures.case c.requires.1.0 c.in-Some.ensures c.requires.0.numbers.size

pub returns-in-Some : goal.returns-in-Some
returns-in-Some g c =
    let fits : SFits w64 (number c.args.lane.now c.in-Some.target) = search rules in
    rw (to_z-of_z fits) (c.rows_at_corners.ensures.numbers c.args.rows.now.case c.args.lane.now c.in-Some.target c.requires.0.numbers)

pub times-requires : goal.times-requires
times-requires g c =
    let n_fits : SFits w64 c.args.number = search rules in
    let w_fits : SFits w128 c.table_least-sum.result.whole = search rules in
    let size : unsigned_abs c.args.number ≤ 2 ^ c.args.rows.now.case.w = omega (arith, ints, c.requires.1.1.0, c.requires.1.1.1) in
    record { room = rw (to_z-of_z n_fits, to_z-of_z w_fits) (c.table_least-sum.ensures.whole.room _ size) }

pub rounded_up-requires-clause-sum : goal.rounded_up-requires-clause-sum
rounded_up-requires-clause-sum g c =
    let fits : SFits w128 c.table_least-sum.result.sum = search rules in
    rw (to_z-of_z fits) (sum_room c.rows_at_corners.ensures.range c.args.rows.now.case g.spans c.args.lane.now c.args.s c.args.a c.table_least-sum.result.sum c.w.ensures.case c.requires.0.table.inside c.requires.1.0 c.requires.0.numbers c.table_least-sum.ensures.least c.table_least-sum.result.whole c.table_least-sum.ensures.whole.value c.table_least-sum.ensures.whole.positive).0
