use Rattle.std.proofs.Common.{rules, arith, SFits, w64, to_z-of_z, ap, ◌∙◌, pos, ◌^◌}
use Rattle.lift_poly.proofs.Ring.{linear}
use Rattle.lift_dual.proofs.all.greatest_all.Goals as goal

pub leave_lower-requires : goal.leave_lower-requires
leave_lower-requires g c =
    let fits : SFits w64 c.one_at-top.result = search rules in
    let top = to_z-of_z fits ∙ c.one_at-top.ensures ∙ ap (λ w. pos (2 ^ w)) c.w.ensures.value in
    let found = rw c.new-rows.ensures at c.least_avoiding_within.ensures in
    rw c.new-rows.ensures (c.requires.0.table, (c.least_avoiding_within.auto.ranks ∙ c.requires.1, (found.stages, (found.most, found.avoiding.least (found.avoiding.always (omega (arith, linear, top)))))))
