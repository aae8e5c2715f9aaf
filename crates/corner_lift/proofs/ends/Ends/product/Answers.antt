use Rattle.std.proofs.Common.{rules, ◌≡◌, ◌/◌, ◌%◌, ◌^◌, ◌∙◌, pos, take, get_or, to_z, of_z, to_z-of_z, SFits, w64}
use mir.Syntax.{w128}
use Rattle.lift_poly.specs.Polynomial.{factor}
use Rattle.corner_lift.proofs.Gathering.{multiplied_more, multiplied_fits}
use Rattle.corner_lift.proofs.ends.Ends.product.Goals as goal
use Rattle.corner_lift.proofs.ends.Ends.product.Goals.{After-from-product}

-- the factor as the code has it
factor_is : (c : After-from-product) → to_z w128 (of_z w128 c.from-product.result) ≡ factor (c.args.set / 2 ^ (get_or (take c.self.inside.count c.self.inside.chosen) c.loop-parameter.parameter-index (0, pos 0)).0 % 2) ((get_or (take c.self.inside.count c.self.inside.chosen) c.loop-parameter.parameter-index (0, pos 0)).1, c.args.d)
factor_is c =
    let items = take c.self.inside.count c.self.inside.chosen in
    let d_fits : SFits w64 c.args.d = c.ranges.d in
    let end_fits : SFits w64 (get_or items c.loop-parameter.parameter-index (0, pos 0)).1 = search rules in
    let factor_fits : SFits w64 c.factor_of.result = search rules in
    let wide_fits : SFits w128 c.from-product.result = search rules in
    to_z-of_z wide_fits ∙ c.from-product.ensures ∙ to_z-of_z factor_fits ∙ simp to_z-of_z at c.factor_of.ensures

pub overflow_mul-product : goal.overflow_mul-product
overflow_mul-product c =
    let items = take c.self.inside.count c.self.inside.chosen in
    let d_fits : SFits w64 c.args.d = c.ranges.d in
    let coefficient_fits : SFits w128 c.args.coefficient = c.ranges.coefficient in
    rw (factor_is c) (multiplied_fits c.args.d items c.args.set c.args.coefficient (to_z w128 c.loop-parameter.product-bits) c.loop-parameter.parameter-index (0, pos 0) c.loop-parameter-test.true (simp to_z-of_z at c.loop-parameter.invariant) c.requires.positive)

pub loop-parameter-preserved : goal.loop-parameter-preserved
loop-parameter-preserved c =
    let items = take c.self.inside.count c.self.inside.chosen in
    let d_fits : SFits w64 c.args.d = c.ranges.d in
    let coefficient_fits : SFits w128 c.args.coefficient = c.ranges.coefficient in
    let product = to_z w128 c.loop-parameter.product-bits in
    let i = c.loop-parameter.parameter-index in
    let invariant = simp to_z-of_z at c.loop-parameter.invariant in
    let fits = multiplied_fits c.args.d items c.args.set c.args.coefficient product i (0, pos 0) c.loop-parameter-test.true invariant c.requires.positive in
    rw (factor_is c, to_z-of_z fits, to_z-of_z d_fits, to_z-of_z coefficient_fits) (multiplied_more c.args.d items c.args.set c.args.coefficient product i (0, pos 0) c.loop-parameter-test.true invariant)
