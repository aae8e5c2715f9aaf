use Rattle.std.proofs.Common.{rules, arith, SFits, w64, to_z-of_z, ap, ◌∙◌, pos, ◌^◌}
use Rattle.lift_poly.proofs.Ring.{linear}
use Rattle.rounded_iter.proofs.Solving.{laws_of}
use Rattle.rounded_iter.proofs.Raising.{least_upper_of}
use Rattle.rounded_iter.proofs.least.least_upper.Goals as goal

pub returns : goal.returns
returns g c =
    let fits : SFits w64 c.one_at.result = search rules in
    let top = to_z-of_z fits ∙ c.one_at.ensures ∙ ap (λ w. pos (2 ^ w)) c.w.ensures.value in
    let found = rw c.new-rows.ensures at c.least_bound.ensures in
    least_upper_of (laws_of c.rows_at_corners.ensures.parameters c.rows_at_corners.ensures.numbers c.rows_at_corners.ensures.range c.rows_at_corners.ensures.rise c.corners_bound_weights.ensures.sum) c.args.case.now g.spans c.w.ensures.case c.requires.table.inside c.least_bound.new.lane (found.least (found.always (omega (arith, linear, top))))
