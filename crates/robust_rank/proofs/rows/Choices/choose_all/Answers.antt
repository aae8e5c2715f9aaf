use Rattle.std.proofs.Common.{length, ap, arith}
use Rattle.lift_model.specs.Model.{ModelData}
use Rattle.robust_rank.specs.Staging.{IsChoiceOf}
use Rattle.robust_rank.proofs.Gathering.{written}
use Rattle.robust_rank.proofs.rows.Choices.choose_all.Goals as goal

pub loop-s-preserved : goal.loop-s-preserved
loop-s-preserved g c = written (λ t pick. IsChoiceOf c.args.self.now.rows.case.now g.spans c.args.self.now.allowed.now c.args.ranks.now t pick) c.loop-s.picks c.loop-s.s c.choice_of.result (omega (arith, c.loop-s-test.true, c.states-s-end.ensures.value, ap (λ (m : ModelData). length m.states) c.model.ensures.value, c.loop-s.auto.picks, c.requires.1.0.1)) c.loop-s.invariant c.choice_of.ensures.chosen
