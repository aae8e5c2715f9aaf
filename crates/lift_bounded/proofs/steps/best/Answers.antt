use Rattle.std.proofs.Common.{rules, ◌≡◌, ◌≤◌, [], length, subst, SFits, w64, to_z-of_z, arith}
use Rattle.lift_model.specs.Model.{choices}
use Rattle.corner_lift.specs.Case.{IsCase}
use Rattle.lift_bounded.specs.Stepping.{IsGreatestFor}
use Rattle.lift_bounded.proofs.Stepping.{first_held, one_more_held}
use Rattle.lift_bounded.proofs.steps.best.Goals as goal

pub loop-a-init : goal.loop-a-init
loop-a-init g c =
    let fits : SFits w64 c.held-number.result = search rules in
    rw (to_z-of_z fits) (first_held c.args.rows.now.case g.spans c.args.old.now c.args.s c.held-number.result c.held-number.ensures)

pub loop-a-preserved : goal.loop-a-preserved
loop-a-preserved g c =
    let fits : SFits w64 c.held-other.result = search rules in
    one_more_held c.args.rows.now.case g.spans c.args.old.now c.args.s c.loop-a.a c.loop-a.chosen c.better-chosen.result c.held-other.result c.loop-a.invariant c.held-other.ensures (rw (to_z-of_z fits) at c.better-chosen.ensures)

pub returns : goal.returns
returns g c =
    let is : IsCase c.args.rows.now.case = c.w.ensures.case in
    let some : 1 ≤ length (choices c.args.rows.now.case.model c.args.s) = is.asked.model.some_choice c.args.s [] c.requires.1 in
    let all : c.loop-a.a ≡ length (choices c.args.rows.now.case.model c.args.s) = omega (arith, c.loop-a-test.false, c.loop-a.auto.a-end, c.choice_count-a-end.ensures, some) in
    subst (λ n. IsGreatestFor c.args.rows.now.case g.spans c.args.old.now c.args.s n c.loop-a.chosen) all c.loop-a.invariant
