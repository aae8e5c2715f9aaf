use Rattle.std.proofs.Common.{rules, arith, SFits, w64, to_z-of_z, ap, ◌∙◌, pos, ◌^◌}
use Rattle.lift_poly.proofs.Ring.{linear}
use Rattle.lift_dual.proofs.one.least_one.Goals as goal

pub returns : goal.returns
returns g c =
    let fits : SFits w64 c.one_at-top.result = search rules in
    let top = to_z-of_z fits ∙ c.one_at-top.ensures ∙ ap (λ w. pos (2 ^ w)) c.w.ensures.value in
    let found = rw c.new-rows.ensures at c.least_one_within.ensures in
    found.least (found.always (omega (arith, linear, top)))
