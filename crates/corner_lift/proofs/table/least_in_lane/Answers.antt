use Rattle.std.proofs.Common.{rules, ℕ, ℤ, w64, to_z, to_z-of_z, SFits}
use Rattle.corner_lift.specs.Case.{number}
use Rattle.corner_lift.specs.Dot.{dot, corner_part}
use Rattle.corner_lift.proofs.OtherStates.{least_two, least_two_more}
use Rattle.corner_lift.proofs.table.least_in_lane.Goals as goal

pub loop-pair-init : goal.loop-pair-init
loop-pair-init c =
    let fits : SFits w64 c.lesser_of_both-least.result = search rules in
    let f : ℕ → ℤ = λ n. dot (number c.args.vec.now) (corner_part c.args.weights.now c.args.place n) c.args.targets.now in
    let both = c.lesser_of_both-least.ensures in
    rw (to_z-of_z fits) (least_two f c.lesser_of_both-least.result both.low both.high both.one)

pub loop-pair-preserved : goal.loop-pair-preserved
loop-pair-preserved c =
    let fits : SFits w64 c.lesser_in_lane-least.result = search rules in
    let next_fits : SFits w64 c.lesser_of_both-next.result = search rules in
    let f : ℕ → ℤ = λ n. dot (number c.args.vec.now) (corner_part c.args.weights.now c.args.place n) c.args.targets.now in
    let both = c.lesser_of_both-next.ensures in
    let left = c.lesser_in_lane-least.ensures.left in
    let right = rw (to_z-of_z next_fits) at c.lesser_in_lane-least.ensures.right in
    let one = rw (to_z-of_z next_fits) at c.lesser_in_lane-least.ensures.one in
    rw (to_z-of_z fits) (least_two_more f c.loop-pair.pair (to_z w64 c.loop-pair.least-bits) c.lesser_of_both-next.result c.lesser_in_lane-least.result c.loop-pair.invariant both.low both.high both.one left right one)
