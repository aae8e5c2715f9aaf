use Rattle.std.proofs.Common.{to_z-of_z, arith}
use Rattle.std.proofs.lemmas.Int.{by_lt_z}
use Rattle.lift_poly.proofs.Ring.{linear}
use Rattle.corner_lift.specs.Case.{number}
use Rattle.lower_cert.proofs.greatest.lower_unranked.Goals as goal

pub returns-clause-none : goal.returns-clause-none
returns-clause-none g c =
    let init = c.args.case.now.model.init in
    let high = rw c.new-rows.ensures at c.begin.ensures in
    let test = (rw (to_z-of_z c.ranges.limit, c.new-rows.ensures) at c.is_above.ensures).1 in
    λ none r lower. by_lt_z c.args.limit (number c.begin.new.lane init)
    (λ lt. let wrong = test lt in absurd (cc (wrong, none)))
    (λ le. omega (arith, linear, le, high.above r lower (λ t. (c.rows_at_corners.ensures.numbers c.args.case.now r.numbers t lower.numbers).1) init))
