use Rattle.std.proofs.Common.{rules, ◌≡◌, ◌*◌, ◌^◌, ◌<◌, ◌≤◌, pos, SFits, w64, to_z-of_z, unsigned_abs, ap, ap₂, ◌∙◌, arith, pow_mono}
use Rattle.std.proofs.lemmas.Int.{to_z_pos}
use Rattle.lift_poly.proofs.Ring.{linear}
use Rattle.corner_lift.specs.Case.{most_precision}
use Rattle.lift_cost.proofs.Limits.{within_quotient}
use Rattle.lift_cost.proofs.question.CostQuestion.limit.Goals as goal

pub returns-in-Some : goal.returns-in-Some
returns-in-Some c n range affordable =
    let q = c.args.self.now in
    let w = q.case.now.w in
    let fits : SFits w64 c.one_at-one.result = search rules in
    let one = rw (to_z-of_z fits, c.one_at-one.ensures, c.w.ensures.value) at c.unsigned_abs.ensures.value in
    let some = c.in-Some.ensures in
    let most = c.widening_mul-most.ensures ∙ ap (λ i. q.budget.num * i) one in
    let scale = c.from-scale.ensures ∙ c.short_mul.ensures in
    let small : 2 ^ w ≤ 2 ^ most_precision = pow_mono c.w.ensures.case.asked.precision.1 in
    let below = rw (to_z-of_z fits, c.one_at-one.ensures, c.w.ensures.value) at c.if-number-one.true in
    let lane : c.in-Some.number < 2 ^ 63 = omega (arith, below, small) in
    rw (to_z_pos w64 c.in-Some.number lane)
    (within_quotient n q.budget.num (2 ^ w) (q.cap * q.budget.den) c.widening_mul-most.result c.in-Some.number range.0 affordable most (rw scale at some.0) (rw scale at some.1))
