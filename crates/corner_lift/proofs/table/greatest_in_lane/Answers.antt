use Rattle.std.proofs.Common.{rules, ℕ, ℤ, w64, to_z, to_z-of_z, SFits}
use Rattle.corner_lift.specs.Case.{number}
use Rattle.corner_lift.specs.Dot.{dot, corner_part}
use Rattle.corner_lift.proofs.OtherStates.{greatest_two, greatest_two_more}
use Rattle.corner_lift.proofs.table.greatest_in_lane.Goals as goal

pub loop-pair-init : goal.loop-pair-init
loop-pair-init c =
    let fits : SFits w64 c.greater_of_both-greatest.result = search rules in
    let f : ℕ → ℤ = λ n. dot (number c.args.vec.now) (corner_part c.args.weights.now c.args.place n) c.args.targets.now in
    let both = c.greater_of_both-greatest.ensures in
    rw (to_z-of_z fits) (greatest_two f c.greater_of_both-greatest.result both.low both.high both.one)

pub loop-pair-preserved : goal.loop-pair-preserved
loop-pair-preserved c =
    let fits : SFits w64 c.greater_in_lane-greatest.result = search rules in
    let next_fits : SFits w64 c.greater_of_both-next.result = search rules in
    let f : ℕ → ℤ = λ n. dot (number c.args.vec.now) (corner_part c.args.weights.now c.args.place n) c.args.targets.now in
    let both = c.greater_of_both-next.ensures in
    let left = c.greater_in_lane-greatest.ensures.left in
    let right = rw (to_z-of_z next_fits) at c.greater_in_lane-greatest.ensures.right in
    let one = rw (to_z-of_z next_fits) at c.greater_in_lane-greatest.ensures.one in
    rw (to_z-of_z fits) (greatest_two_more f c.loop-pair.pair (to_z w64 c.loop-pair.greatest-bits) c.greater_of_both-next.result c.greater_in_lane-greatest.result c.loop-pair.invariant both.low both.high both.one left right one)
