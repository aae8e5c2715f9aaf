use Rattle.std.proofs.Common.{rules, ◌≡◌, ◌<◌, SFits, w64, to_z, to_z-of_z, subst, arith}
use Rattle.std.proofs.lemmas.Nat.{pow_pos}
use Rattle.lift_model.specs.Model.{row_at}
use Rattle.corner_lift.specs.Case.{corner_count, row_parameters}
use Rattle.rounded_iter.specs.Rising.{IsSolvedFor}
use Rattle.rounded_iter.proofs.Solving.{laws_of, solved_first, solved_more}
use Rattle.rounded_iter.proofs.table.Table.rewarded_corners.Goals as goal

pub loop-corner-init : goal.loop-corner-init
loop-corner-init g c =
    let r = rw (← c.self.view_is) at c.requires.0 in
    let fits : SFits w64 c.solve_rewarded_either-number.result = search rules in
    rw (← c.self.view_is, to_z-of_z fits) (solved_first (laws_of c.rows_at_corners.ensures.parameters c.rows_at_corners.ensures.numbers c.rows_at_corners.ensures.range c.rows_at_corners.ensures.rise c.corners_bound_weights.ensures.sum) c.self.inside.rows.now.case g.spans r.read.case r.read.table.inside c.args.s c.args.a r.row c.args.lane.now r.numbers c.self.inside.rule.ends _ _ (rw (← c.self.view_is) at c.solve_rewarded_either-number.ensures))

pub loop-corner-preserved : goal.loop-corner-preserved
loop-corner-preserved g c =
    let r = rw (← c.self.view_is) at c.requires.0 in
    let fits : SFits w64 c.more_extreme-number.result = search rules in
    let other_fits : SFits w64 c.solve_rewarded_either-other.result = search rules in
    let inside : c.loop-corner.corner < corner_count c.self.inside.rows.now.case c.args.s c.args.a = omega (arith, c.loop-corner-test.true, c.corners-corners.ensures) in
    rw (← c.self.view_is, to_z-of_z fits)
    (solved_more (laws_of c.rows_at_corners.ensures.parameters c.rows_at_corners.ensures.numbers c.rows_at_corners.ensures.range c.rows_at_corners.ensures.rise c.corners_bound_weights.ensures.sum) c.self.inside.rows.now.case g.spans r.read.case r.read.table.inside c.args.s c.args.a r.row c.args.lane.now r.numbers c.self.inside.rule.ends _ c.loop-corner.corner _ c.solve_rewarded_either-other.result c.more_extreme-number.result inside (rw (← c.self.view_is) at c.loop-corner.invariant) (rw (← c.self.view_is) at c.solve_rewarded_either-other.ensures) (rw to_z-of_z at c.more_extreme-number.ensures))

pub returns : goal.returns
returns g c =
    let r = rw (← c.self.view_is) at c.requires.0 in
    let some = pow_pos (row_parameters c.self.inside.rows.now.case (row_at c.self.inside.rows.now.case.model c.args.s c.args.a)) in
    let all : c.loop-corner.corner ≡ corner_count c.self.inside.rows.now.case c.args.s c.args.a = omega (arith, c.corners-corners.ensures, some, c.loop-corner-test.false, c.loop-corner.auto.corner-end) in
    rw (← c.self.view_is) (subst (λ n. IsSolvedFor c.self.inside.rule.ends c.self.inside.rule.corner c.self.inside.rows.now.case g.spans c.args.lane.now c.args.s c.args.a n (to_z w64 c.loop-corner.number-bits)) all (rw (← c.self.view_is) at c.loop-corner.invariant))
