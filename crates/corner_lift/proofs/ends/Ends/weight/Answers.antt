use Rattle.std.proofs.Common.{rules, ◌<◌, ◌+◌, ◌∙◌, ◌+ℤ◌, length, arith, to_z, of_z, to_z-of_z, SFits, w64}
use mir.Syntax.{w128}
use Rattle.corner_lift.proofs.Summing.{IsWeighed, term_room, weighed_more, weighed_fits}
use Rattle.corner_lift.proofs.ends.Ends.weight.Goals as goal
use Rattle.corner_lift.proofs.ends.Ends.weight.Goals.{After-product-sum}

pub product-sum-requires-clause-room : goal.product-sum-requires-clause-room
product-sum-requires-clause-room c =
    let d_fits : SFits w64 c.args.d = c.ranges.d in
    let term_fits : SFits w128 c.term-set.result.1 = search rules in
    let lt : c.loop-index.index < length c.args.poly.now = omega (arith, c.loop-index-test.true, c.len-index-end.ensures.value) in
    simp to_z-of_z (term_room c.args.d c.args.self.now c.args.poly.now c.loop-index.index c.term-set.result lt c.term-set.ensures c.requires.room)

-- the sum with this term
added : (c : After-product-sum) → IsWeighed c.args.d c.args.self.now c.args.poly.now (to_z w128 c.loop-index.sum-bits +ℤ to_z w128 (of_z w128 c.product-sum.result)) (c.loop-index.index + 1)
added c =
    let d_fits : SFits w64 c.args.d = c.ranges.d in
    let term_fits : SFits w128 c.term-set.result.1 = search rules in
    let product_fits : SFits w128 c.product-sum.result = search rules in
    let lt : c.loop-index.index < length c.args.poly.now = omega (arith, c.loop-index-test.true, c.len-index-end.ensures.value) in
    let value = to_z-of_z product_fits ∙ simp to_z-of_z at c.product-sum.ensures in
    rw value (weighed_more c.args.d c.args.self.now c.args.poly.now c.loop-index.index c.term-set.result lt c.term-set.ensures (to_z w128 c.loop-index.sum-bits) (simp to_z-of_z at c.loop-index.invariant))

pub overflow_add-sum : goal.overflow_add-sum
overflow_add-sum c = weighed_fits c.args.d c.args.self.now c.args.poly.now _ (c.loop-index.index + 1) c.requires.room (added c)

pub loop-index-preserved : goal.loop-index-preserved
loop-index-preserved c =
    let d_fits : SFits w64 c.args.d = c.ranges.d in
    let sum_fits = weighed_fits c.args.d c.args.self.now c.args.poly.now _ (c.loop-index.index + 1) c.requires.room (added c) in
    rw (to_z-of_z sum_fits, to_z-of_z d_fits) (added c)
