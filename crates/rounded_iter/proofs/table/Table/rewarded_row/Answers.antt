use Rattle.std.proofs.Common.{rules, ◌≤◌, ◌^◌, SFits, w64, to_z-of_z, pow_mono, arith}
use mir.Syntax.{w128}
use Rattle.lift_poly.proofs.Ring.{linear}
use Rattle.corner_lift.specs.Case.{number, most_precision}
use Rattle.rounded_iter.proofs.Solving.{laws_of, n_range, extreme_least, extreme_most}
use Rattle.rounded_iter.proofs.Rewarding.{added_range}
use Rattle.rounded_iter.proofs.Lone.{before_small, from_least, lone_rewarded}
use Rattle.rounded_iter.proofs.table.Table.rewarded_row.Goals as goal

pub before_reward-before-requires-clause-number : goal.before_reward-before-requires-clause-number
before_reward-before-requires-clause-number g c =
    let can = c.requires.0.can in
    let k = c.args.self.now.case in
    let number_fits : SFits w64 (number c.args.lane.now c.args.s) = search rules in
    let small : 2 ^ k.w ≤ 2 ^ most_precision = pow_mono can.read.case.asked.precision.1 in
    let range = n_range (laws_of c.rows_at_corners.ensures.parameters c.rows_at_corners.ensures.numbers c.rows_at_corners.ensures.range c.rows_at_corners.ensures.rise c.corners_bound_weights.ensures.sum) k g.spans can.read.case can.read.table.inside c.args.s c.args.a can.row c.args.lane.now can.numbers in
    rw (to_z-of_z number_fits) (range.0, omega (arith, linear, range.1, small))

pub before_reward-before-requires-clause-reward : goal.before_reward-before-requires-clause-reward
before_reward-before-requires-clause-reward g c =
    let can = c.requires.0.can in
    let k = c.args.self.now.case in
    let small : 2 ^ k.w ≤ 2 ^ most_precision = pow_mono can.read.case.asked.precision.1 in
    let range = added_range k c.args.self.now.rule.ends c.args.s in
    rw (to_z-of_z c.ranges.reward) (omega (arith, linear, c.requires.1.0, range.0), omega (arith, linear, c.requires.1.0, range.1, small))

pub after_reward-requires-clause-reward : goal.after_reward-requires-clause-reward
after_reward-requires-clause-reward g c =
    let top_fits : SFits w64 c.self.inside.top = search rules in
    let reward = rw (← c.self.view_is) at c.requires.1.0 in
    let range = added_range c.self.inside.rows.now.case c.self.inside.rule.ends c.args.s in
    rw (to_z-of_z c.ranges.reward, to_z-of_z top_fits, c.self.invariant) (omega (arith, linear, reward, range.0), omega (arith, linear, reward, range.1))

pub rounded_up_from-requires-clause-room : goal.rounded_up_from-requires-clause-room
rounded_up_from-requires-clause-room g c =
    let can = c.requires.0.can in
    let k = c.args.self.now.case in
    let whole_is = c.weigh-sum.ensures.whole in
    let number_fits : SFits w64 (number c.args.lane.now c.args.s) = search rules in
    let before_fits : SFits w64 c.before_reward-before.result = search rules in
    let whole_fits : SFits w128 c.weigh-sum.result.whole = search rules in
    let range = n_range (laws_of c.rows_at_corners.ensures.parameters c.rows_at_corners.ensures.numbers c.rows_at_corners.ensures.range c.rows_at_corners.ensures.rise c.corners_bound_weights.ensures.sum) k g.spans can.read.case can.read.table.inside c.args.s c.args.a can.row c.args.lane.now can.numbers in
    let before = rw (to_z-of_z number_fits, to_z-of_z c.ranges.reward) at c.before_reward-before.ensures in
    rw (to_z-of_z before_fits, to_z-of_z whole_fits) (whole_is.room _ (before_small k.w (number c.args.lane.now c.args.s) c.args.reward c.before_reward-before.result range.1 before))

pub rounded_up_from-requires-clause-least : goal.rounded_up_from-requires-clause-least
rounded_up_from-requires-clause-least g c =
    let r = c.requires.0.can in
    let sum_fits : SFits w128 c.weigh-sum.result.sum = search rules in
    rw (to_z-of_z sum_fits) (extreme_least (laws_of c.rows_at_corners.ensures.parameters c.rows_at_corners.ensures.numbers c.rows_at_corners.ensures.range c.rows_at_corners.ensures.rise c.corners_bound_weights.ensures.sum) c.args.self.now.case g.spans r.read.case r.read.table.inside c.args.s c.args.a r.row c.args.lane.now r.numbers _ c.weigh-sum.result.sum c.weigh-sum.ensures.extreme)

pub rounded_up_from-requires-clause-most : goal.rounded_up_from-requires-clause-most
rounded_up_from-requires-clause-most g c =
    let r = c.requires.0.can in
    let whole_is = c.weigh-sum.ensures.whole in
    let sum_fits : SFits w128 c.weigh-sum.result.sum = search rules in
    let whole_fits : SFits w128 c.weigh-sum.result.whole = search rules in
    rw (to_z-of_z sum_fits, to_z-of_z whole_fits, whole_is.value) (extreme_most (laws_of c.rows_at_corners.ensures.parameters c.rows_at_corners.ensures.numbers c.rows_at_corners.ensures.range c.rows_at_corners.ensures.rise c.corners_bound_weights.ensures.sum) c.args.self.now.case g.spans r.read.case r.read.table.inside c.args.s c.args.a r.row c.args.lane.now r.numbers _ c.weigh-sum.result.sum c.weigh-sum.ensures.extreme (rw whole_is.value at whole_is.positive))

pub after_reward-requires-clause-number : goal.after_reward-requires-clause-number
after_reward-requires-clause-number g c =
    let before_fits : SFits w64 c.before_reward-before.result = search rules in
    let whole_fits : SFits w128 c.weigh-sum.result.whole = search rules in
    let sum_fits : SFits w128 c.weigh-sum.result.sum = search rules in
    let found_fits : SFits w64 c.rounded_up_from.result = search rules in
    let found = rw (to_z-of_z before_fits, to_z-of_z sum_fits, to_z-of_z whole_fits) at c.rounded_up_from.ensures in
    let up = from_least c.before_reward-before.result c.weigh-sum.result.sum c.weigh-sum.result.whole c.rounded_up_from.result c.weigh-sum.ensures.whole.positive found in
    rw (to_z-of_z found_fits) (omega (arith, linear, up, c.before_reward-before.ensures.least))

pub returns : goal.returns
returns g c =
    let r = rw (← c.self.view_is) at c.requires.0 in
    let k = c.self.inside.rows.now.case in
    let reward = rw (← c.self.view_is) at c.requires.1.0 in
    let rewards = rw (← c.self.view_is) at c.requires.1.1 in
    let weighed = rw (← c.self.view_is) at c.weigh-sum.ensures in
    let whole_is = weighed.whole in
    let number_fits : SFits w64 (number c.args.lane.now c.args.s) = search rules in
    let before_fits : SFits w64 c.before_reward-before.result = search rules in
    let whole_fits : SFits w128 c.weigh-sum.result.whole = search rules in
    let sum_fits : SFits w128 c.weigh-sum.result.sum = search rules in
    let found_fits : SFits w64 c.rounded_up_from.result = search rules in
    let top_fits : SFits w64 c.self.inside.top = search rules in
    let fits : SFits w64 c.after_reward.result = search rules in
    let before = rw (to_z-of_z number_fits, to_z-of_z c.ranges.reward) at c.before_reward-before.ensures in
    let found = rw (to_z-of_z before_fits, to_z-of_z sum_fits, to_z-of_z whole_fits, whole_is.value) at c.rounded_up_from.ensures in
    let after = rw (to_z-of_z found_fits, to_z-of_z c.ranges.reward, to_z-of_z top_fits, c.self.invariant) at c.after_reward.ensures in
    rw (← c.self.view_is, to_z-of_z fits)
    (lone_rewarded (laws_of c.rows_at_corners.ensures.parameters c.rows_at_corners.ensures.numbers c.rows_at_corners.ensures.range c.rows_at_corners.ensures.rise c.corners_bound_weights.ensures.sum) k g.spans r.can.read.case r.can.read.table.inside c.args.s c.args.a r.can.row c.args.lane.now r.can.numbers c.self.inside.rule.corner c.weigh-sum.result.sum weighed.extreme r.other (rw whole_is.value at whole_is.positive) c.args.reward c.before_reward-before.result c.rounded_up_from.result c.after_reward.result before found after c.self.inside.rule.ends rewards reward)
