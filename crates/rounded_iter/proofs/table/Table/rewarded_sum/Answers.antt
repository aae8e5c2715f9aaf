use Rattle.std.proofs.Common.{rules, ◌≤◌, ◌^◌, ◌*ℤ◌, SFits, w64, to_z-of_z, pow_mono, arith}
use Rattle.lift_poly.proofs.Ring.{linear}
use Rattle.corner_lift.specs.Case.{number, most_precision}
use Rattle.rounded_iter.proofs.Solving.{laws_of, n_range, extreme_least, scaled_least}
use Rattle.rounded_iter.proofs.Rewarding.{added_range}
use Rattle.rounded_iter.proofs.Lone.{from_least, lone_rewarded}
use Rattle.rounded_iter.proofs.table.Table.rewarded_sum.Goals as goal

pub before_reward-before-requires-clause-number : goal.before_reward-before-requires-clause-number
before_reward-before-requires-clause-number g c =
    let can = c.requires.0.can in
    let k = c.args.self.now.case in
    let number_fits : SFits w64 (number c.args.lane.now c.args.s) = search rules in
    let small : 2 ^ k.w ≤ 2 ^ most_precision = pow_mono can.read.case.asked.precision.1 in
    let range = n_range (laws_of c.rows_at_corners.ensures.parameters c.rows_at_corners.ensures.numbers c.rows_at_corners.ensures.range c.rows_at_corners.ensures.rise c.corners_bound_weights.ensures.sum) k g.spans can.read.case can.read.table.inside c.args.s c.args.a can.row c.args.lane.now can.numbers in
    rw (to_z-of_z number_fits) (range.0, omega (arith, linear, range.1, small))

pub before_reward-before-requires-clause-reward : goal.before_reward-before-requires-clause-reward
before_reward-before-requires-clause-reward g c =
    let reward_fits : SFits w64 c.reward_of-reward.result = search rules in
    let can = c.requires.0.can in
    let k = c.args.self.now.case in
    let small : 2 ^ k.w ≤ 2 ^ most_precision = pow_mono can.read.case.asked.precision.1 in
    let range = added_range k c.args.self.now.rule.ends c.args.s in
    rw (to_z-of_z reward_fits) (omega (arith, linear, c.reward_of-reward.ensures, range.0), omega (arith, linear, c.reward_of-reward.ensures, range.1, small))

pub after_reward-requires-clause-reward : goal.after_reward-requires-clause-reward
after_reward-requires-clause-reward g c =
    let reward_fits : SFits w64 c.reward_of-reward.result = search rules in
    let top_fits : SFits w64 c.self.inside.top = search rules in
    let reward = rw (← c.self.view_is) at c.reward_of-reward.ensures in
    let range = added_range c.self.inside.rows.now.case c.self.inside.rule.ends c.args.s in
    rw (to_z-of_z reward_fits, to_z-of_z top_fits, c.self.invariant) (omega (arith, linear, reward, range.0), omega (arith, linear, reward, range.1))

pub rounded_up_from-requires-clause-least : goal.rounded_up_from-requires-clause-least
rounded_up_from-requires-clause-least g c =
    let t = c.args.self.now in
    let can = c.requires.0.can in
    let row = c.args.row in
    scaled_least row.sum row.scale c.requires.1.1.0.1.0 (extreme_least (laws_of c.rows_at_corners.ensures.parameters c.rows_at_corners.ensures.numbers c.rows_at_corners.ensures.range c.rows_at_corners.ensures.rise c.corners_bound_weights.ensures.sum) t.case g.spans can.read.case can.read.table.inside c.args.s c.args.a can.row c.args.lane.now can.numbers t.rule.corner (row.sum *ℤ row.scale) c.requires.1.0)

pub after_reward-requires-clause-number : goal.after_reward-requires-clause-number
after_reward-requires-clause-number g c =
    let row = c.args.row in
    let whole = c.requires.1.1.0 in
    let before_fits : SFits w64 c.before_reward-before.result = search rules in
    let found_fits : SFits w64 c.in_ok-number.number = search rules in
    let found = rw (to_z-of_z before_fits) at c.in_ok-number.ensures in
    let up = from_least c.before_reward-before.result (row.sum *ℤ row.scale) (row.whole *ℤ row.scale) c.in_ok-number.number whole.1.1.positive (found row.scale whole.1.0) in
    rw (to_z-of_z found_fits) (omega (arith, linear, up, c.before_reward-before.ensures.least))

pub returns : goal.returns
returns g c =
    let reward_fits : SFits w64 c.reward_of-reward.result = search rules in
    let r = rw (← c.self.view_is) at c.requires.0 in
    let k = c.self.inside.rows.now.case in
    let reward = rw (← c.self.view_is) at c.reward_of-reward.ensures in
    let rewards = rw (← c.self.view_is) at c.requires.1.1.1 in
    let row = c.args.row in
    let extreme = rw (← c.self.view_is) at c.requires.1.0 in
    let whole = rw (← c.self.view_is) at c.requires.1.1.0 in
    let whole_is = whole.1.1 in
    let number_fits : SFits w64 (number c.args.lane.now c.args.s) = search rules in
    let before_fits : SFits w64 c.before_reward-before.result = search rules in
    let found_fits : SFits w64 c.in_ok-number.number = search rules in
    let top_fits : SFits w64 c.self.inside.top = search rules in
    let fits : SFits w64 c.after_reward.result = search rules in
    let before = rw (to_z-of_z number_fits, to_z-of_z reward_fits) at c.before_reward-before.ensures in
    let each = rw (to_z-of_z before_fits) at c.in_ok-number.ensures in
    let found = rw whole_is.value at (each row.scale whole.1.0) in
    let after = rw (to_z-of_z found_fits, to_z-of_z reward_fits, to_z-of_z top_fits, c.self.invariant) at c.after_reward.ensures in
    rw (← c.self.view_is, to_z-of_z fits)
    (lone_rewarded (laws_of c.rows_at_corners.ensures.parameters c.rows_at_corners.ensures.numbers c.rows_at_corners.ensures.range c.rows_at_corners.ensures.rise c.corners_bound_weights.ensures.sum) k g.spans r.can.read.case r.can.read.table.inside c.args.s c.args.a r.can.row c.args.lane.now r.can.numbers c.self.inside.rule.corner (row.sum *ℤ row.scale) extreme r.other (rw whole_is.value at whole_is.positive) c.reward_of-reward.result c.before_reward-before.result c.in_ok-number.number c.after_reward.result before found after c.self.inside.rule.ends rewards reward)
