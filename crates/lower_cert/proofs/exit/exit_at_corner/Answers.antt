use Rattle.std.proofs.Common.{rules, ◌∙◌, ◌^◌, ◌≤◌, to_z-of_z, SFits, w64, unsigned_abs, arith, pow_mono}
use mir.Syntax.{w128}
use Rattle.std.proofs.lemmas.Int.{ints}
use Rattle.lift_poly.proofs.Ring.{linear}
use Rattle.corner_lift.specs.Case.{number, engine_limit}
use Rattle.lower_cert.specs.Capping.{marked}
use Rattle.lower_cert.proofs.Means.{stand}
use Rattle.lower_cert.proofs.Exits.{part_room, into_least, into_most, rest_least, exit_caps, at_spans}
use Rattle.lower_cert.proofs.exit.exit_at_corner.Goals as goal

pub exit-requires-clause-number : goal.exit-requires-clause-number
exit-requires-clause-number g c =
    let laws = c.premises.ensures in
    let place = stand laws c.args.rows.now.case g.spans c.w.ensures.case c.requires.0.table.inside in
    let n_is = to_z-of_z c.ranges.level in
    let range = c.requires.0.range in
    let small : 2 ^ c.args.rows.now.case.w ≤ 2 ^ 40 = pow_mono c.w.ensures.case.asked.precision.1 in
    rw n_is (range.0, omega (arith, linear, range.1, small))

pub exit-requires-clause-into : goal.exit-requires-clause-into
exit-requires-clause-into g c =
    let laws = c.premises.ensures in
    let place = stand laws c.args.rows.now.case g.spans c.w.ensures.case c.requires.0.table.inside in
    let o_fits : SFits w128 c.table_into-into.result = search rules in
    let o_is = to_z-of_z o_fits ∙ c.table_into-into.ensures in
    let w_fits : SFits w128 c.table_whole-whole.result = search rules in
    let w_is = to_z-of_z w_fits ∙ c.table_whole-whole.ensures.value in
    rw (o_is, w_is) (into_least c.args.rows.now.case g.spans place c.args.s c.args.a c.requires.1.0.choice c.args.corner c.requires.1.1 (marked c.args.marks.now) (number c.args.lane.now) c.args.level, into_most c.args.rows.now.case g.spans place c.args.s c.args.a c.requires.1.0.choice c.args.corner c.requires.1.1 (marked c.args.marks.now) (number c.args.lane.now) c.args.level)

pub exit-requires-clause-room : goal.exit-requires-clause-room
exit-requires-clause-room g c =
    let laws = c.premises.ensures in
    let place = stand laws c.args.rows.now.case g.spans c.w.ensures.case c.requires.0.table.inside in
    let n_is = to_z-of_z c.ranges.level in
    let range = c.requires.0.range in
    let w_fits : SFits w128 c.table_whole-whole.result = search rules in
    let w_is = to_z-of_z w_fits ∙ c.table_whole-whole.ensures.value in
    let size : unsigned_abs c.args.level ≤ 2 ^ c.args.rows.now.case.w = (omega (arith, ints, range.0, range.1)) in
    rw (n_is, to_z-of_z w_fits) (c.table_whole-whole.ensures.room _ size)

pub exit-requires-clause-part : goal.exit-requires-clause-part
exit-requires-clause-part g c =
    let laws = c.premises.ensures in
    let place = stand laws c.args.rows.now.case g.spans c.w.ensures.case c.requires.0.table.inside in
    let n_is = to_z-of_z c.ranges.level in
    let range = c.requires.0.range in
    let o_fits : SFits w128 c.table_into-into.result = search rules in
    let o_is = to_z-of_z o_fits ∙ c.table_into-into.ensures in
    let size : unsigned_abs c.args.level ≤ 2 ^ c.args.rows.now.case.w = (omega (arith, ints, range.0, range.1)) in
    rw (n_is, o_is) (part_room _ _ _ engine_limit (into_least c.args.rows.now.case g.spans place c.args.s c.args.a c.requires.1.0.choice c.args.corner c.requires.1.1 (marked c.args.marks.now) (number c.args.lane.now) c.args.level) (into_most c.args.rows.now.case g.spans place c.args.s c.args.a c.requires.1.0.choice c.args.corner c.requires.1.1 (marked c.args.marks.now) (number c.args.lane.now) c.args.level) (rw c.table_whole-whole.ensures.value at (c.table_whole-whole.ensures.room _ size)))

pub exit-requires-clause-sum : goal.exit-requires-clause-sum
exit-requires-clause-sum g c =
    let laws = c.premises.ensures in
    let place = stand laws c.args.rows.now.case g.spans c.w.ensures.case c.requires.0.table.inside in
    let n_is = to_z-of_z c.ranges.level in
    let range = c.requires.0.range in
    let o_fits : SFits w128 c.table_into-into.result = search rules in
    let o_is = to_z-of_z o_fits ∙ c.table_into-into.ensures in
    let s_fits : SFits w128 c.table_value-sum.result = search rules in
    let s_is = to_z-of_z s_fits ∙ c.table_value-sum.ensures in
    rw (n_is, o_is, s_is) (rest_least c.args.rows.now.case g.spans place c.args.s c.args.a c.requires.1.0.choice c.args.corner c.requires.1.1 (marked c.args.marks.now) (number c.args.lane.now) c.args.level c.requires.0.level (λ t. (laws.numbers c.args.rows.now.case c.args.lane.now t c.requires.0.high.numbers).0))

pub returns-clause-most : goal.returns-clause-most
returns-clause-most g c =
    let laws = c.premises.ensures in
    let place = stand laws c.args.rows.now.case g.spans c.w.ensures.case c.requires.0.table.inside in
    let n_is = to_z-of_z c.ranges.level in
    let range = c.requires.0.range in
    let o_fits : SFits w128 c.table_into-into.result = search rules in
    let o_is = to_z-of_z o_fits ∙ c.table_into-into.ensures in
    let w_fits : SFits w128 c.table_whole-whole.result = search rules in
    let w_is = to_z-of_z w_fits ∙ c.table_whole-whole.ensures.value in
    let s_fits : SFits w128 c.table_value-sum.result = search rules in
    let s_is = to_z-of_z s_fits ∙ c.table_value-sum.ensures in
    let fits : SFits w64 c.exit.result = search rules in
    let is = rw (n_is, o_is, w_is, s_is) at c.exit.ensures.exit in
    rw (to_z-of_z fits) (λ low. (c.args.corner, (at_spans c.args.rows.now.case g.spans place c.args.s c.args.a c.requires.1.0.choice c.args.corner c.requires.1.1, exit_caps c.args.rows.now.case g.spans place c.args.s c.args.a c.requires.1.0.choice c.args.corner c.requires.1.1 (marked c.args.marks.now) (number c.args.lane.now) c.args.level c.requires.0.level c.exit.result (is low))))
