use Rattle.std.proofs.Common.{rules, ◌≡◌, length, subst, SFits, w64, to_z, to_z-of_z, arith}
use Rattle.lift_model.specs.Model.{choices}
use Rattle.corner_lift.specs.Case.{IsCase, number}
use Rattle.lift_bounded.specs.Stepping.{IsLeastFor}
use Rattle.lift_bounded.proofs.Stepping.{none_covered, one_more_covered}
use Rattle.lift_bounded.proofs.steps.covering.Goals as goal

pub loop-a-init : goal.loop-a-init
loop-a-init g c =
    let fits : SFits w64 (number c.args.old.now c.args.s) = search rules in
    rw (to_z-of_z fits) (none_covered c.args.rows.now.case g.spans c.args.old.now c.args.s c.requires.0.numbers c.requires.1)

pub loop-a-preserved : goal.loop-a-preserved
loop-a-preserved g c =
    let fits : SFits w64 c.raised-number.result = search rules in
    let is : IsCase c.args.rows.now.case = c.w.ensures.case in
    rw (to_z-of_z fits) (one_more_covered c.args.rows.now.case g.spans c.args.old.now c.args.s c.loop-a.a _ c.raised-number.result is c.loop-a.invariant c.raised-number.ensures)

pub returns : goal.returns
returns g c =
    let all : c.loop-a.a ≡ length (choices c.args.rows.now.case.model c.args.s) = omega (arith, c.loop-a-test.false, c.loop-a.auto.a-end, c.choice_count-a-end.ensures) in
    subst (λ n. IsLeastFor c.args.rows.now.case g.spans c.args.old.now c.args.s n (to_z w64 c.loop-a.number-bits)) all c.loop-a.invariant
