use Rattle.std.proofs.Common.{arith}
use Rattle.std.proofs.lemmas.Int.{by_lt_z}
use Rattle.lift_poly.proofs.Ring.{linear}
use Rattle.corner_lift.specs.Case.{number}
use Rattle.lower_cert.proofs.descent.Descent.reject_from.Goals as goal

pub rate_of-requires : goal.rate_of-requires
rate_of-requires g c =
    let above = c.is_above.ensures.0 c.if-is_above.true in
    (c.requires.0, (c.descend.ensures.high, c.descend.ensures.settled above))

pub returns-then-is_above-clause-some : goal.returns-then-is_above-clause-some
returns-then-is_above-clause-some g c = record {
  greatest = c.rate_of.ensures.greatest;
  height = c.rate_of.ensures.height;
  above = c.is_above.ensures.0 c.if-is_above.true;
}

pub returns-clause-none : goal.returns-clause-none
returns-clause-none g c =
    let init = c.args.self.now.rows.now.case.model.init in
    let test = c.is_above.ensures.1 in
    λ none r lower. by_lt_z c.args.self.now.limit (number c.descend.new.lane init)
    (λ lt. let wrong = test lt in let not = c.if-is_above.false in absurd (cc (wrong, not)))
    (λ le. omega (arith, linear, le, c.descend.ensures.high.above r lower (λ t. (c.rows_at_corners.ensures.numbers c.args.self.now.rows.now.case r.numbers t lower.numbers).1) init))
