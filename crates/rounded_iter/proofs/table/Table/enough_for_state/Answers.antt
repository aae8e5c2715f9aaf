use Rattle.std.proofs.Common.{rules, ◌<◌, SFits, w64, to_z-of_z, length, arith}
use Rattle.lift_model.specs.Model.{choices}
use Rattle.rounded_iter.specs.Rising.{unrewarded}
use Rattle.rounded_iter.proofs.Solving.{laws_of}
use Rattle.rounded_iter.proofs.Raising.{solved_by_first, solved_by_more}
use Rattle.rounded_iter.proofs.table.Table.enough_for_state.Goals as goal

pub loop-a-init : goal.loop-a-init
loop-a-init g c =
    let t = c.args.self.now in
    let fits : SFits w64 c.enough-number.result = search rules in
    rw (to_z-of_z fits) (solved_by_first (laws_of c.rows_at_corners.ensures.parameters c.rows_at_corners.ensures.numbers c.rows_at_corners.ensures.range c.rows_at_corners.ensures.rise c.corners_bound_weights.ensures.sum) (unrewarded t.rule) t.case g.spans c.requires.read.case c.requires.read.table.inside c.args.lane.now c.requires.numbers c.args.s c.requires.state _ c.enough-number.ensures)

pub loop-a-preserved : goal.loop-a-preserved
loop-a-preserved g c =
    let r = rw (← c.self.view_is) at c.requires in
    let fits : SFits w64 c.more_extreme-number.result = search rules in
    let other_fits : SFits w64 c.enough-other.result = search rules in
    let inside : c.loop-a.a < length (choices c.self.inside.rows.now.case.model c.args.s) = omega (arith, c.loop-a-test.true, c.choice_count-a-end.ensures) in
    rw (← c.self.view_is, to_z-of_z fits)
    (solved_by_more (laws_of c.rows_at_corners.ensures.parameters c.rows_at_corners.ensures.numbers c.rows_at_corners.ensures.range c.rows_at_corners.ensures.rise c.corners_bound_weights.ensures.sum) (unrewarded c.self.inside.rule) c.self.inside.rows.now.case g.spans r.read.case r.read.table.inside c.args.lane.now r.numbers c.args.s r.state c.loop-a.a inside _ c.enough-other.result (rw (← c.self.view_is) at c.loop-a.invariant) (rw (← c.self.view_is) at c.enough-other.ensures) c.more_extreme-number.result (rw to_z-of_z at c.more_extreme-number.ensures))
