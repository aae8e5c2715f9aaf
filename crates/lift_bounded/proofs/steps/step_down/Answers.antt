use Rattle.std.proofs.Common.{rules, ◌≡◌, ◌∙◌, ◌<◌, length, pos, sym, ap, arith, SFits, w64, to_z-of_z, ext_get_or}
use Rattle.lift_model.specs.Model.{ModelData}
use Rattle.corner_lift.specs.Case.{IsCase, number}
use Rattle.lift_bounded.specs.Stepping.{IsLowerAt}
use Rattle.lift_bounded.proofs.Stepping.{greatest_step_of, set_both, set_more}
use Rattle.lift_bounded.proofs.steps.step_down.Goals as goal

pub loop-s-preserved : goal.loop-s-preserved
loop-s-preserved g c =
    let fits : SFits w64 c.lower_at-number.result.number = search rules in
    let old_fits : SFits w64 (number c.args.old.now c.loop-s.s) = search rules in
    let count : c.states-s-end.result ≡ length c.args.rows.now.case.model.states = c.states-s-end.ensures.value ∙ ap (λ (m : ModelData). length m.states) c.model.ensures in
    let inside : c.loop-s.s < length c.loop-s.new = omega (arith, c.loop-s-test.true, count, c.loop-s.auto.new, c.requires.1.0) in
    let choice_inside : c.loop-s.s < length c.loop-s.picks = omega (arith, c.loop-s-test.true, count, c.loop-s.auto.picks, c.requires.1.1) in
    record {
      each = rw (to_z-of_z fits) (set_both (λ i v p. IsLowerAt c.args.rows.now.case g.spans c.args.old.now i v p) c.loop-s.new c.loop-s.picks c.loop-s.s c.lower_at-number.result.number c.lower_at-number.result.pick inside choice_inside c.lower_at-number.ensures c.loop-s.invariant.each);
      same = λ still.
          let here = rw (to_z-of_z old_fits, to_z-of_z fits) at (c.is_changed-changed.ensures.same still) in
          rw (to_z-of_z fits) (set_more (λ i v. number c.args.old.now i ≡ v) c.loop-s.new c.loop-s.s c.lower_at-number.result.number inside here (c.loop-s.invariant.same (c.is_changed-changed.ensures.before still)));
    }

pub returns-clause-step : goal.returns-clause-step
returns-clause-step g c =
    let is : IsCase c.args.rows.now.case = c.w.ensures.case in
    let count : c.states-s-end.result ≡ length c.args.rows.now.case.model.states = c.states-s-end.ensures.value ∙ ap (λ (m : ModelData). length m.states) c.model.ensures in
    greatest_step_of c.rows_at_corners.ensures.parameters c.args.rows.now.case g.spans is c.requires.0.lifted.inside c.args.old.now c.loop-s.new c.loop-s.picks (c.loop-s.auto.new ∙ c.requires.1.0) (c.loop-s.auto.picks ∙ c.requires.1.1)
    (λ i lt. c.loop-s.invariant.each i (omega (arith, lt, count, c.loop-s-test.false)))

pub returns-clause-same : goal.returns-clause-same
returns-clause-same g c = λ still.
    let count : c.states-s-end.result ≡ length c.args.rows.now.case.model.states = c.states-s-end.ensures.value ∙ ap (λ (m : ModelData). length m.states) c.model.ensures in
    let size = c.requires.0.numbers.size in
    ext_get_or (pos 0) c.args.old.now c.loop-s.new (size ∙ sym (c.loop-s.auto.new ∙ c.requires.1.0)) (λ i lt. c.loop-s.invariant.same still i (omega (arith, lt, size, count, c.loop-s-test.false)))
