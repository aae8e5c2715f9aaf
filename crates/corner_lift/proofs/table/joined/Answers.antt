use Rattle.std.proofs.Common.{rules, ◌≡◌, ◌+ℤ◌, ◌*ℤ◌, ap₂, ◌∙◌, to_z, of_z, to_z-of_z, SFits, w64, FitsSigned, arith}
use Rattle.std.proofs.lemmas.Int.{fits_signed_from_abs, unsigned_abs-mul, ints}
use mir.Syntax.{w128}
use Rattle.corner_lift.proofs.table.joined.Goals as goal
use Rattle.corner_lift.proofs.table.joined.Goals.{After-times-2}

sum_is : (c : After-times-2) → to_z w128 (of_z w128 c.times.result) +ℤ to_z w128 (of_z w128 c.times-2.result) ≡ c.args.present *ℤ c.args.end +ℤ c.args.absent *ℤ c.args.d
sum_is c =
    let present_fits : SFits w128 c.args.present = c.ranges.present in
    let absent_fits : SFits w128 c.args.absent = c.ranges.absent in
    let end_fits : SFits w64 c.args.end = c.ranges.end in
    let d_fits : SFits w64 c.args.d = c.ranges.d in
    let first : SFits w128 c.times.result = search rules in
    let second : SFits w128 c.times-2.result = search rules in
    ap₂ ◌+ℤ◌ (to_z-of_z first ∙ simp to_z-of_z at c.times.ensures) (to_z-of_z second ∙ simp to_z-of_z at c.times-2.ensures)

sum_fits : (c : After-times-2) → FitsSigned w128 (c.args.present *ℤ c.args.end +ℤ c.args.absent *ℤ c.args.d)
sum_fits c = fits_signed_from_abs w128 (c.args.present *ℤ c.args.end +ℤ c.args.absent *ℤ c.args.d) (omega (arith, ints, c.requires.present, c.requires.absent, unsigned_abs-mul c.args.present c.args.end, unsigned_abs-mul c.args.absent c.args.d))

pub overflow_add-result : goal.overflow_add-result
overflow_add-result c = rw (sum_is c) (sum_fits c)

pub returns : goal.returns
returns c = rw (sum_is c) (to_z-of_z (sum_fits c))
