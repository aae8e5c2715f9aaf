use Rattle.std.proofs.Common.{◌≡◌, arith, ◌∙◌, if◌then◌else◌}
use Rattle.lift_model.specs.Model.{is_goal}
use Rattle.corner_lift.specs.Certificate.{unmarked}
use Rattle.lift_dual.proofs.Choosing.{written}
use Rattle.lift_dual.proofs.chain.choose_first.Goals as goal

pub loop-s-preserved : goal.loop-s-preserved
loop-s-preserved c = written (λ t pick. pick ≡ (if is_goal c.args.model.now t then unmarked else 0)) c.loop-s.picks c.loop-s.s c.first_choice.result (omega (arith, c.loop-s-test.true, c.states-s-end.ensures.value, c.loop-s.auto.picks, c.requires)) c.loop-s.invariant c.first_choice.ensures

pub returns : goal.returns
returns c = record {
  size = c.loop-s.auto.picks ∙ c.requires;
  each = λ s lt. c.loop-s.invariant s (omega (arith, lt, c.loop-s-test.false, c.states-s-end.ensures.value));
}
