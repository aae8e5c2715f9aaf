use Rattle.std.proofs.Common.{length, ap, arith, ◌∙◌}
use Rattle.lift_model.specs.Model.{ModelData}
use Rattle.lift_dual.specs.Choosing.{IsLowestChoice}
use Rattle.lift_dual.proofs.Choosing.{written}
use Rattle.lift_dual.proofs.one.choose_all.Goals as goal

pub loop-s-preserved : goal.loop-s-preserved
loop-s-preserved g c = written (λ t pick. IsLowestChoice c.args.rows.now.case g.spans c.args.lane.now t pick) c.loop-s.picks c.loop-s.s c.lowest_choice.result (omega (arith, c.loop-s-test.true, c.states-s-end.ensures.value, ap (λ (m : ModelData). length m.states) c.model.ensures, c.loop-s.auto.picks, c.requires.1.1.0)) c.loop-s.invariant c.lowest_choice.ensures

pub returns : goal.returns
returns g c = record {
  size = c.loop-s.auto.picks ∙ c.requires.1.1.0;
  each = λ s lt. c.loop-s.invariant s (omega (arith, lt, c.loop-s-test.false, c.states-s-end.ensures.value, ap (λ (m : ModelData). length m.states) c.model.ensures));
}
