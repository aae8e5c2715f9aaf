use Rattle.std.proofs.Common.{rules, arith, SFits, w64, to_z-of_z, slice_index_or, ◌-◌, ◌≤ℤ◌, ◌≡◌, pos, ◌-ℤ◌, length, ◌<◌}
use Rattle.lift_poly.proofs.Ring.{linear}
use Rattle.corner_lift.specs.Case.{number}
use Rattle.rounded_iter.proofs.Solving.{laws_of}
use Rattle.rounded_iter.proofs.Holding.{raised_at_in, under_at}
use Rattle.rounded_iter.proofs.table.Table.raise_at.Goals as goal

pub reduced-number-requires : goal.reduced-number-requires
reduced-number-requires g c =
    let n = slice_index_or c.args.settled.numbers.now (c.args.position - c.args.component.low) (pos 0) in
    let state : slice_index_or c.order.result.now c.args.position 0 < length c.args.self.now.case.model.states = search rules in
    let at : slice_index_or c.args.self.now.links.order c.args.position 0 ≡ slice_index_or c.order.result.now c.args.position 0 = search rules in
    let u = under_at c.args.self.now g.run c.requires.0 c.args.component c.requires.1.1.1.1.1.0 c.args.settled.numbers.now c.args.settled.high c.requires.1.1.1.0 c.args.position (slice_index_or c.order.result.now c.args.position 0) c.requires.1.1.1.1.0.0 c.requires.1.1.1.1.0.1 at state in
    let one : SFits w64 n = search rules in
    let two : SFits w64 c.args.settled.high = search rules in
    let three : SFits w64 c.args.component.number = search rules in
    let four : SFits w64 (c.args.settled.high -ℤ c.args.component.number) = search rules in
    rw (to_z-of_z one, to_z-of_z two, to_z-of_z three, to_z-of_z four)
    (omega (arith, linear, u.range.0), omega (arith, linear, c.requires.1.1.1.0.range.1))

pub returns-then-number-lane : goal.returns-then-number-lane
returns-then-number-lane g c =
    let n = slice_index_or c.args.settled.numbers.now (c.args.position - c.args.component.low) (pos 0) in
    let s = slice_index_or c.order.result.now c.args.position 0 in
    let v = c.reduced-number.result in
    let state : s < length c.args.self.now.case.model.states = search rules in
    let at : slice_index_or c.args.self.now.links.order c.args.position 0 ≡ s = search rules in
    let one : SFits w64 n = search rules in
    let two : SFits w64 c.args.settled.high = search rules in
    let three : SFits w64 c.args.component.number = search rules in
    let four : SFits w64 (c.args.settled.high -ℤ c.args.component.number) = search rules in
    let five : SFits w64 v = search rules in
    let is : v ≡ n -ℤ (c.args.settled.high -ℤ c.args.component.number) = rw (to_z-of_z one, to_z-of_z two, to_z-of_z three, to_z-of_z four) at c.reduced-number.ensures in
    let le : number c.args.lane.now s ≤ℤ v = search rules in
    rw (to_z-of_z five)
    (raised_at_in (laws_of c.rows_at_corners.ensures.parameters c.rows_at_corners.ensures.numbers c.rows_at_corners.ensures.range c.rows_at_corners.ensures.rise c.corners_bound_weights.ensures.sum) c.args.self.now g.run c.requires.0 c.args.component c.requires.1.1.0 c.requires.1.1.1.1.1.0 c.args.lane.now c.args.settled.numbers.now c.args.settled.high v c.args.position s c.requires.1.0 c.requires.1.1.1.0 c.requires.1.1.1.1.0.0 c.requires.1.1.1.1.0.1 at state is le)
