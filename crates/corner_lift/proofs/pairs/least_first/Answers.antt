use Rattle.std.proofs.Common.{rules, ◌*◌, ℕ, ℤ, pos, slice_index_or, to_z, to_z-of_z, SFits, refl, arith}
use mir.Syntax.{w128}
use Rattle.corner_lift.specs.Case.{number}
use Rattle.corner_lift.proofs.Cases.{least_more}
use Rattle.corner_lift.proofs.PairSums.{least_of_one}
use Rattle.corner_lift.proofs.pairs.least_first.Goals as goal

pub loop-corner-init : goal.loop-corner-init
loop-corner-init c =
    let fits : SFits w128 (slice_index_or c.args.block.now 0 (pos 0)) = search rules in
    let f : ℕ → ℤ = λ n. number c.args.block.now (2 * n) in
    rw (to_z-of_z fits) (omega (arith, c.requires), least_of_one f (number c.args.block.now 0) refl)

pub loop-corner-preserved : goal.loop-corner-preserved
loop-corner-preserved c =
    let n = c.loop-corner.corner in
    let fits : SFits w128 c.lesser-least.result = search rules in
    let here : SFits w128 (slice_index_or c.args.block.now (2 * n) (pos 0)) = search rules in
    let f : ℕ → ℤ = λ n. number c.args.block.now (2 * n) in
    let z = to_z w128 c.loop-corner.least-bits in
    let left = c.lesser-least.ensures.left in
    let right = rw (to_z-of_z here) at c.lesser-least.ensures.right in
    let one = rw (to_z-of_z here) at c.lesser-least.ensures.one in
    rw (to_z-of_z fits) (omega (arith, c.loop-corner-test.true), least_more f n z c.lesser-least.result c.loop-corner.invariant.1 left right one)

pub returns : goal.returns
returns c =
    let before = c.loop-corner.invariant.1 in
    record {
      least = λ n has. before.least n (omega (arith, has, c.loop-corner.invariant.0, c.loop-corner-test.false));
      attained = (before.attained.0, (omega (arith, before.attained.1.0, c.loop-corner.invariant.0), before.attained.1.1));
    }
