use Rattle.std.proofs.Common.{◌∙◌, ℕ, List, Err, subst, rules}
use Rattle.lift_base.specs.Outside.{Wrote}
use Rattle.lift_base.proofs.Gathering.{begins_appends}
use Rattle.lift_base.proofs.Writing.{wrote_most}
use Rattle.lift_base.proofs.buffered.BufferedSink.flush.Goals as goal

pub invariant_of-self : goal.invariant_of-self
invariant_of-self g c = record {
  begins = begins_appends _ _ _ _ c.args.self.now.begins c.write_most-count.ensures.taken;
  same = c.write_most-count.ensures.same ∙ c.args.self.now.same;
}

pub returns-else-whole-clause-wrote : goal.returns-else-whole-clause-wrote
returns-else-whole-clause-wrote g c =
    let most = c.write_most-count.ensures in
    subst (λ (held : List ℕ). Wrote g.K.Sink.taken g.K.Sink.faults c.args.self.now.inner c.write_most-count.new.out (Err _) held) c.as_slice.ensures
    (wrote_most _ c.as_slice.result.now c.write_most-count.result most.taken (most.cause (search rules)) most.later)
