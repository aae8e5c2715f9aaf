use Rattle.std.proofs.Common.{rules, ◌≡◌, subst}
use Rattle.lift_grid.specs.Rectangle.{spans_of}
use Rattle.lift_grid.specs.Splitting.{IsAxisBelow}
use Rattle.lift_grid.proofs.Axis.{no_axis, some_axis}
use Rattle.lift_grid.proofs.halving.split_axis.Goals as goal

pub returns-clause-none : goal.returns-clause-none
returns-clause-none c =
    let end : c.loop-parameter.parameter ≡ 16 = search rules in
    no_axis c.args.live (spans_of c.args.sides.now) c.loop-parameter.best c.ranges.live.fits (subst (λ n. IsAxisBelow n c.args.live (spans_of c.args.sides.now) c.loop-parameter.best) end c.loop-parameter.invariant)

pub returns-clause-axis : goal.returns-clause-axis
returns-clause-axis c =
    let end : c.loop-parameter.parameter ≡ 16 = search rules in
    some_axis c.args.live (spans_of c.args.sides.now) c.loop-parameter.best c.ranges.live.fits (subst (λ n. IsAxisBelow n c.args.live (spans_of c.args.sides.now) c.loop-parameter.best) end c.loop-parameter.invariant)
