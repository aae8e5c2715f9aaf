use Rattle.std.proofs.Common.{rules, ◌≡◌, ◌<◌, SFits, w64, to_z, to_z-of_z, [], length, subst, arith}
use Rattle.lift_model.specs.Model.{choices}
use Rattle.rounded_iter.specs.Rising.{IsSolvedBy}
use Rattle.rounded_iter.proofs.Solving.{laws_of}
use Rattle.rounded_iter.proofs.Raising.{solved_by_first, solved_by_more}
use Rattle.rounded_iter.proofs.table.Table.rewarded_choices.Goals as goal

pub loop-a-init : goal.loop-a-init
loop-a-init g c =
    let t = c.args.self.now in
    let fits : SFits w64 c.rewarded-number.result = search rules in
    rw (to_z-of_z fits) (solved_by_first (laws_of c.rows_at_corners.ensures.parameters c.rows_at_corners.ensures.numbers c.rows_at_corners.ensures.range c.rows_at_corners.ensures.rise c.corners_bound_weights.ensures.sum) t.rule t.case g.spans c.requires.0.read.case c.requires.0.read.table.inside c.args.lane.now c.requires.0.numbers c.args.s c.requires.0.state _ c.rewarded-number.ensures)

pub loop-a-preserved : goal.loop-a-preserved
loop-a-preserved g c =
    let r = rw (← c.self.view_is) at c.requires.0 in
    let fits : SFits w64 c.more_extreme-number.result = search rules in
    let other_fits : SFits w64 c.rewarded-other.result = search rules in
    let inside : c.loop-a.a < length (choices c.self.inside.rows.now.case.model c.args.s) = omega (arith, c.loop-a-test.true, c.choice_count-a-end.ensures) in
    rw (← c.self.view_is, to_z-of_z fits)
    (solved_by_more (laws_of c.rows_at_corners.ensures.parameters c.rows_at_corners.ensures.numbers c.rows_at_corners.ensures.range c.rows_at_corners.ensures.rise c.corners_bound_weights.ensures.sum) c.self.inside.rule c.self.inside.rows.now.case g.spans r.read.case r.read.table.inside c.args.lane.now r.numbers c.args.s r.state c.loop-a.a inside _ c.rewarded-other.result (rw (← c.self.view_is) at c.loop-a.invariant) (rw (← c.self.view_is) at c.rewarded-other.ensures) c.more_extreme-number.result (rw to_z-of_z at c.more_extreme-number.ensures))

pub returns : goal.returns
returns g c =
    let r = rw (← c.self.view_is) at c.requires.0 in
    let some = r.read.case.asked.model.some_choice c.args.s [] r.state in
    let all : c.loop-a.a ≡ length (choices c.self.inside.rows.now.case.model c.args.s) = omega (arith, c.choice_count-a-end.ensures, some, c.loop-a-test.false, c.loop-a.auto.a-end) in
    rw (← c.self.view_is) (subst (λ n. IsSolvedBy c.self.inside.rule c.self.inside.rows.now.case g.spans c.args.lane.now c.args.s n (to_z w64 c.loop-a.number-bits)) all (rw (← c.self.view_is) at c.loop-a.invariant))
