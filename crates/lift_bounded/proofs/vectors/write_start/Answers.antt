use Rattle.std.proofs.Common.{◌∙◌, length, ap, arith}
use Rattle.lift_model.specs.Model.{ModelData}
use Rattle.lift_bounded.proofs.Filling.{start_of}
use Rattle.lift_bounded.proofs.vectors.write_start.Goals as goal

pub returns : goal.returns
returns c = start_of c.args.case.now c.loop-s.lane c.w.ensures.case.asked.model.goals (c.loop-s.auto.lane ∙ c.requires)
    (λ i lt. c.loop-s.invariant i (omega (arith, lt, c.states-s-end.ensures.value, ap (λ (m : ModelData). length m.states) c.model.ensures.value, c.loop-s-test.false)))
