use Rattle.std.proofs.Common.{rules, SFits, w64, to_z-of_z, arith}
use Rattle.lift_poly.proofs.Ring.{linear}
use Rattle.corner_lift.specs.Case.{number}
use Rattle.rounded_iter.proofs.Solving.{laws_of, only_inside, whole_positive}
use Rattle.rounded_iter.proofs.Rewarding.{added_range}
use Rattle.rounded_iter.proofs.Lone.{single_rewarded}
use Rattle.rounded_iter.proofs.table.Table.rewarded_single.Goals as goal

pub bounds-lane-target : goal.bounds-lane-target
bounds-lane-target g c =
    let t = c.args.self.now in
    let can = c.requires.0.can in
    only_inside (laws_of c.rows_at_corners.ensures.parameters c.rows_at_corners.ensures.numbers c.rows_at_corners.ensures.range c.rows_at_corners.ensures.rise c.corners_bound_weights.ensures.sum) t.case g.spans can.read.case can.read.table.inside c.args.s c.args.a can.row c.args.lane.now can.numbers t.rule.corner c.args.target c.requires.1.0

pub after_reward-paid-requires-clause-number : goal.after_reward-paid-requires-clause-number
after_reward-paid-requires-clause-number g c =
    let can = c.requires.0.can in
    let target_fits : SFits w64 (number c.args.lane.now c.args.target) = search rules in
    rw (to_z-of_z target_fits) (c.rows_at_corners.ensures.numbers c.args.self.now.case c.args.lane.now c.args.target can.numbers).0

pub after_reward-paid-requires-clause-reward : goal.after_reward-paid-requires-clause-reward
after_reward-paid-requires-clause-reward g c =
    let reward_fits : SFits w64 c.reward_of-reward.result = search rules in
    let top_fits : SFits w64 c.self.inside.top = search rules in
    let reward = rw (← c.self.view_is) at c.reward_of-reward.ensures in
    let range = added_range c.self.inside.rows.now.case c.self.inside.rule.ends c.args.s in
    rw (to_z-of_z reward_fits, to_z-of_z top_fits, c.self.invariant) (omega (arith, linear, reward, range.0), omega (arith, linear, reward, range.1))

pub returns : goal.returns
returns g c =
    let r = rw (← c.self.view_is) at c.requires.0 in
    let single = rw (← c.self.view_is) at c.requires.1.0 in
    let rewards = rw (← c.self.view_is) at c.requires.1.1 in
    let reward = rw (← c.self.view_is) at c.reward_of-reward.ensures in
    let reward_fits : SFits w64 c.reward_of-reward.result = search rules in
    let top_fits : SFits w64 c.self.inside.top = search rules in
    let number_fits : SFits w64 (number c.args.lane.now c.args.s) = search rules in
    let target_fits : SFits w64 (number c.args.lane.now c.args.target) = search rules in
    let paid_fits : SFits w64 c.after_reward-paid.result = search rules in
    let fits : SFits w64 c.more_extreme.result = search rules in
    let after = rw (to_z-of_z target_fits, to_z-of_z reward_fits, to_z-of_z top_fits, c.self.invariant) at c.after_reward-paid.ensures in
    let more = rw (to_z-of_z number_fits, to_z-of_z paid_fits) at c.more_extreme.ensures in
    rw (← c.self.view_is, to_z-of_z fits)
    (single_rewarded (laws_of c.rows_at_corners.ensures.parameters c.rows_at_corners.ensures.numbers c.rows_at_corners.ensures.range c.rows_at_corners.ensures.rise c.corners_bound_weights.ensures.sum) c.self.inside.rows.now.case g.spans r.can.read.case r.can.read.table.inside c.args.s c.args.a r.can.row c.args.lane.now r.can.numbers c.self.inside.rule.corner c.args.target single r.other (whole_positive (laws_of c.rows_at_corners.ensures.parameters c.rows_at_corners.ensures.numbers c.rows_at_corners.ensures.range c.rows_at_corners.ensures.rise c.corners_bound_weights.ensures.sum) c.self.inside.rows.now.case g.spans r.can.read.case r.can.read.table.inside c.args.s c.args.a r.can.row) c.reward_of-reward.result c.after_reward-paid.result c.more_extreme.result after more c.self.inside.rule.ends rewards reward)
