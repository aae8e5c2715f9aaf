use Rattle.std.proofs.Common.{rules, ◌≡◌, ◌∙◌, ℕ, ℤ, ap, to_z, of_z, to_z-of_z, SFits}
use mir.Syntax.{w128}
use Rattle.corner_lift.specs.Case.{number}
use Rattle.corner_lift.specs.Dot.{dot, corner_part}
use Rattle.corner_lift.proofs.Cases.{least_more}
use Rattle.corner_lift.proofs.table.least_of.Goals as goal

pub loop-corner-preserved : goal.loop-corner-preserved
loop-corner-preserved c =
    let fits : SFits w128 c.lesser-least.result = search rules in
    let sum_fits : SFits w128 c.sum_of-sum.result = search rules in
    let f : ℕ → ℤ = λ n. dot (number c.args.vec.now) (corner_part c.args.weights.now c.args.place n) c.args.targets.now in
    let n = c.loop-corner.corner in
    let z = to_z w128 c.loop-corner.least-bits in
    let value : to_z w128 (of_z w128 c.sum_of-sum.result) ≡ f n = to_z-of_z sum_fits ∙ c.sum_of-sum.ensures ∙ ap (λ ws. dot (number c.args.vec.now) ws c.args.targets.now) c.corner_of-in-loop-corner.ensures in
    let left = c.lesser-least.ensures.left in
    let right = rw value at c.lesser-least.ensures.right in
    let one = rw value at c.lesser-least.ensures.one in
    rw (to_z-of_z fits) (least_more f n z c.lesser-least.result c.loop-corner.invariant left right one)

pub sum_of-least-requires-clause-room : goal.sum_of-least-requires-clause-room
sum_of-least-requires-clause-room c = rw c.corner_of.ensures (c.requires.room.sums 0 c.requires.room.some)

pub sum_of-least-requires-clause-lane : goal.sum_of-least-requires-clause-lane
sum_of-least-requires-clause-lane c = λ narrow. rw c.corner_of.ensures (c.requires.lane narrow 0 c.requires.room.some)
