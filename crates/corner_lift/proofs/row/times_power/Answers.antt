use Rattle.std.proofs.Common.{rules, ◌≡◌, ℕ, zero, suc, ◌-◌, ◌<◌, ◌∙◌, ◌*ℤ◌, ◌≤ℤ◌, ◌<ℤ◌, pos, ℤ, to_z, of_z, to_z-of_z, SFits, w64, arith}
use mir.Syntax.{w128}
use Rattle.lift_poly.proofs.Ring.{linear}
use Rattle.lift_model.specs.Process.{power}
use Rattle.corner_lift.proofs.Cases.{IsRaised, raised_more, raised_fits, raised_all}
use Rattle.corner_lift.proofs.row.times_power.Goals as goal
use Rattle.corner_lift.proofs.row.times_power.Goals.{After-from-product-in-loop-left}

-- one factor fewer is left
next : (d all product : ℤ) (left : ℕ) → 0 < left → IsRaised d all product left → IsRaised d all (product *ℤ d) (left - 1)
next d all product zero lt h = absurd (omega arith)
next d all product (suc left) lt h = let e : suc left - 1 ≡ left = omega arith in rw e (raised_more d all product left h)

factor_is : (c : After-from-product-in-loop-left) → to_z w128 (of_z w128 c.from-product-in-loop-left.result) ≡ c.args.d
factor_is c =
    let d_fits : SFits w64 c.args.d = c.ranges.d in
    let wide_fits : SFits w128 c.from-product-in-loop-left.result = search rules in
    to_z-of_z wide_fits ∙ c.from-product-in-loop-left.ensures ∙ to_z-of_z d_fits

raised : (c : After-from-product-in-loop-left) → IsRaised c.args.d (c.args.first *ℤ power c.args.d c.args.count) (to_z w128 c.loop-left.product-bits *ℤ c.args.d) (c.loop-left.left - 1)
raised c =
    let d_fits : SFits w64 c.args.d = c.ranges.d in
    let first_fits : SFits w64 c.args.first = c.ranges.first in
    next c.args.d (c.args.first *ℤ power c.args.d c.args.count) (to_z w128 c.loop-left.product-bits) c.loop-left.left c.loop-left-test.true (simp to_z-of_z at c.loop-left.invariant)

positive : (d : ℤ) → pos 1 ≤ℤ d → pos 0 <ℤ d
positive d h = omega (arith, linear)

pub overflow_mul-product : goal.overflow_mul-product
overflow_mul-product c = rw (factor_is c) (raised_fits c.args.d _ _ _ (positive c.args.d c.requires.positive) (raised c))

pub loop-left-preserved : goal.loop-left-preserved
loop-left-preserved c =
    let d_fits : SFits w64 c.args.d = c.ranges.d in
    let first_fits : SFits w64 c.args.first = c.ranges.first in
    let fits = raised_fits c.args.d _ _ _ (positive c.args.d c.requires.positive) (raised c) in
    rw (factor_is c, to_z-of_z fits, to_z-of_z d_fits, to_z-of_z first_fits) (raised c)

pub returns : goal.returns
returns c =
    let d_fits : SFits w64 c.args.d = c.ranges.d in
    let first_fits : SFits w64 c.args.first = c.ranges.first in
    let none : c.loop-left.left ≡ 0 = omega (arith, c.loop-left-test.false) in
    let invariant : IsRaised c.args.d (c.args.first *ℤ power c.args.d c.args.count) (to_z w128 c.loop-left.product-bits) c.loop-left.left = simp to_z-of_z at c.loop-left.invariant in
    raised_all c.args.d _ (to_z w128 c.loop-left.product-bits) (rw none at invariant)
