use Rattle.std.proofs.Common.{arith, ◌∙◌, ap, length, length-append}
use Rattle.std.proofs.lemmas.Grind.{common_steps}
use Rattle.lift_base.proofs.Writing.{one_more}
use Rattle.lift_base.proofs.output.write_most.Goals as goal

pub loop-rest-preserved : goal.loop-rest-preserved
loop-rest-preserved g c =
    let took = c.in-Took.ensures.does in
    let so_far = c.loop-rest.invariant.wrote in
    record {
      wrote = one_more g.K.Sink.taken g.K.Sink.faults _ _ _ _ _ _ c.in-Took.count so_far took.2 took.3 (grind (arith, common_steps));
      same = c.in-Took.ensures.same ∙ c.loop-rest.invariant.same;
      no_call = λ e. absurd (omega (arith, ap length e, ap length so_far.parts, length-append so_far.front c.loop-rest.rest.now, took.0, took.1));
    }
