use Rattle.std.proofs.Common.{rules, ◌==◌, ◌∙◌, ◌^◌, ◌≤◌, ap, to_z-of_z, SFits, w64, unsigned_abs, arith, pow_mono}
use mir.Syntax.{w128}
use Rattle.std.proofs.lemmas.Int.{ints}
use Rattle.lift_poly.proofs.Ring.{linear}
use Rattle.corner_lift.specs.Case.{number, engine_limit}
use Rattle.lower_cert.proofs.Means.{stand}
use Rattle.lower_cert.proofs.Sweeping.{is_same}
use Rattle.lower_cert.proofs.Exits.{part_room, into_least, into_most, rest_least, exit_caps, at_spans}
use Rattle.lower_cert.proofs.sweep.exit_at.Goals as goal

pub exit-requires-clause-number : goal.exit-requires-clause-number
exit-requires-clause-number g c =
    let laws = c.premises.ensures in
    let place = stand laws c.args.rows.now.case g.spans c.w.ensures.case c.requires.0.table.inside in
    let n_fits : SFits w64 (number c.args.lane.now c.args.s) = search rules in
    let n_is = to_z-of_z n_fits in
    let range = laws.numbers c.args.rows.now.case c.args.lane.now c.args.s c.requires.0.numbers in
    let small : 2 ^ c.args.rows.now.case.w ≤ 2 ^ 40 = pow_mono c.w.ensures.case.asked.precision.1 in
    rw n_is (range.0, omega (arith, linear, range.1, small))

pub exit-requires-clause-into : goal.exit-requires-clause-into
exit-requires-clause-into g c =
    let laws = c.premises.ensures in
    let place = stand laws c.args.rows.now.case g.spans c.w.ensures.case c.requires.0.table.inside in
    let o_fits : SFits w128 c.table_corner-sum.result.own = search rules in
    let o_is = to_z-of_z o_fits ∙ c.table_corner-sum.ensures.own in
    let w_fits : SFits w128 c.table_corner-sum.result.whole = search rules in
    let w_is = to_z-of_z w_fits ∙ c.table_corner-sum.ensures.whole.value in
    rw (o_is, w_is) (into_least c.args.rows.now.case g.spans place c.args.s c.args.a c.requires.1.0.choice c.args.corner c.requires.1.1 (λ t. t == c.args.s) (number c.args.lane.now) (number c.args.lane.now c.args.s), into_most c.args.rows.now.case g.spans place c.args.s c.args.a c.requires.1.0.choice c.args.corner c.requires.1.1 (λ t. t == c.args.s) (number c.args.lane.now) (number c.args.lane.now c.args.s))

pub exit-requires-clause-room : goal.exit-requires-clause-room
exit-requires-clause-room g c =
    let laws = c.premises.ensures in
    let place = stand laws c.args.rows.now.case g.spans c.w.ensures.case c.requires.0.table.inside in
    let n_fits : SFits w64 (number c.args.lane.now c.args.s) = search rules in
    let n_is = to_z-of_z n_fits in
    let w_fits : SFits w128 c.table_corner-sum.result.whole = search rules in
    let w_is = to_z-of_z w_fits ∙ c.table_corner-sum.ensures.whole.value in
    let range = laws.numbers c.args.rows.now.case c.args.lane.now c.args.s c.requires.0.numbers in
    let size : unsigned_abs (number c.args.lane.now c.args.s) ≤ 2 ^ c.args.rows.now.case.w = (omega (arith, ints, range.0, range.1)) in
    rw (n_is, to_z-of_z w_fits) (c.table_corner-sum.ensures.whole.room _ size)

pub exit-requires-clause-part : goal.exit-requires-clause-part
exit-requires-clause-part g c =
    let laws = c.premises.ensures in
    let place = stand laws c.args.rows.now.case g.spans c.w.ensures.case c.requires.0.table.inside in
    let n_fits : SFits w64 (number c.args.lane.now c.args.s) = search rules in
    let n_is = to_z-of_z n_fits in
    let o_fits : SFits w128 c.table_corner-sum.result.own = search rules in
    let o_is = to_z-of_z o_fits ∙ c.table_corner-sum.ensures.own in
    let range = laws.numbers c.args.rows.now.case c.args.lane.now c.args.s c.requires.0.numbers in
    let size : unsigned_abs (number c.args.lane.now c.args.s) ≤ 2 ^ c.args.rows.now.case.w = (omega (arith, ints, range.0, range.1)) in
    rw (n_is, o_is) (part_room _ _ _ engine_limit (into_least c.args.rows.now.case g.spans place c.args.s c.args.a c.requires.1.0.choice c.args.corner c.requires.1.1 (λ t. t == c.args.s) (number c.args.lane.now) (number c.args.lane.now c.args.s)) (into_most c.args.rows.now.case g.spans place c.args.s c.args.a c.requires.1.0.choice c.args.corner c.requires.1.1 (λ t. t == c.args.s) (number c.args.lane.now) (number c.args.lane.now c.args.s)) (rw c.table_corner-sum.ensures.whole.value at (c.table_corner-sum.ensures.whole.room _ size)))

pub exit-requires-clause-sum : goal.exit-requires-clause-sum
exit-requires-clause-sum g c =
    let laws = c.premises.ensures in
    let place = stand laws c.args.rows.now.case g.spans c.w.ensures.case c.requires.0.table.inside in
    let n_fits : SFits w64 (number c.args.lane.now c.args.s) = search rules in
    let n_is = to_z-of_z n_fits in
    let o_fits : SFits w128 c.table_corner-sum.result.own = search rules in
    let o_is = to_z-of_z o_fits ∙ c.table_corner-sum.ensures.own in
    let s_fits : SFits w128 c.table_corner-sum.result.sum = search rules in
    let s_is = to_z-of_z s_fits ∙ c.table_corner-sum.ensures.sum in
    rw (n_is, o_is, s_is) (rest_least c.args.rows.now.case g.spans place c.args.s c.args.a c.requires.1.0.choice c.args.corner c.requires.1.1 (λ t. t == c.args.s) (number c.args.lane.now) (number c.args.lane.now c.args.s) (λ t e. ap (number c.args.lane.now) (is_same t c.args.s e)) (λ t. (laws.numbers c.args.rows.now.case c.args.lane.now t c.requires.0.numbers).0))

pub returns-clause-most : goal.returns-clause-most
returns-clause-most g c =
    let laws = c.premises.ensures in
    let place = stand laws c.args.rows.now.case g.spans c.w.ensures.case c.requires.0.table.inside in
    let n_fits : SFits w64 (number c.args.lane.now c.args.s) = search rules in
    let n_is = to_z-of_z n_fits in
    let o_fits : SFits w128 c.table_corner-sum.result.own = search rules in
    let o_is = to_z-of_z o_fits ∙ c.table_corner-sum.ensures.own in
    let w_fits : SFits w128 c.table_corner-sum.result.whole = search rules in
    let w_is = to_z-of_z w_fits ∙ c.table_corner-sum.ensures.whole.value in
    let s_fits : SFits w128 c.table_corner-sum.result.sum = search rules in
    let s_is = to_z-of_z s_fits ∙ c.table_corner-sum.ensures.sum in
    let fits : SFits w64 c.exit.result = search rules in
    let is = rw (n_is, o_is, w_is, s_is) at c.exit.ensures.exit in
    rw (to_z-of_z fits) (λ low. (c.args.corner, (at_spans c.args.rows.now.case g.spans place c.args.s c.args.a c.requires.1.0.choice c.args.corner c.requires.1.1, exit_caps c.args.rows.now.case g.spans place c.args.s c.args.a c.requires.1.0.choice c.args.corner c.requires.1.1 (λ t. t == c.args.s) (number c.args.lane.now) (number c.args.lane.now c.args.s) (λ t e. ap (number c.args.lane.now) (is_same t c.args.s e)) c.exit.result (is low))))
