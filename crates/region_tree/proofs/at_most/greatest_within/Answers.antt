use Rattle.std.proofs.Common.{rules, ◌≡◌, ◌<◌, ◌^◌, arith}
use Rattle.lift_poly.proofs.Ring.{linear}
use Rattle.region_tree.proofs.Verdicts.{is_floor, floor_fits, floor_is}
use Rattle.region_tree.proofs.at_most.greatest_within.Goals as goal

pub overflow_cast-result : goal.overflow_cast-result
overflow_cast-result c =
    let b = c.bound.inside in
    let narrow : b.num < 2 ^ 32 = search rules in
    let floor = is_floor b.num b.den c.args.w narrow c.bound.invariant.most c.bound.invariant.positive c.requires in
    rw (c.from.ensures, c.from-2.ensures) (floor_fits _ floor.fits)

pub returns-clause-beyond : goal.returns-clause-beyond
returns-clause-beyond c =
    let b = c.bound.inside in
    let narrow : b.num < 2 ^ 32 = search rules in
    let floor = is_floor b.num b.den c.args.w narrow c.bound.invariant.most c.bound.invariant.positive c.requires in
    let num : c.args.bound.num ≡ b.num = search rules in
    let den : c.args.bound.den ≡ b.den = search rules in
    rw (c.from.ensures, c.from-2.ensures, floor_is _ floor.fits, num, den) (omega (arith, linear, floor.beyond))
