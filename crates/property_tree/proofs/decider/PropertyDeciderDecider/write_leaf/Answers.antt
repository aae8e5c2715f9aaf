use Rattle.std.proofs.Common.{subst}
use Rattle.lift_base.specs.Outside.{Wrote}
use Rattle.corner_lift.specs.Case.{at}
use Rattle.property_tree.specs.Decided.{leaf_in}
use Rattle.property_tree.specs.Text.{leaf_text}
use Rattle.property_tree.proofs.decider.PropertyDeciderDecider.write_leaf.Goals as goal

pub write_leaf-requires-clause-u : goal.write_leaf-requires-clause-u
write_leaf-requires-clause-u g c = rw c.w.ensures.value c.w.ensures.case.asked.precision.1

pub write_leaf-requires-clause-pools : goal.write_leaf-requires-clause-pools
write_leaf-requires-clause-pools g c = rw c.pools.ensures c.requires.ready.1.has.pools

pub returns : goal.returns
returns g c =
    let q = c.args.self.now.question.now in
    subst (λ p. Wrote g.K.Sink.taken g.K.Sink.faults c.args.out.now c.write_leaf.new.out c.write_leaf.result (leaf_text q.case.now q.op (leaf_in q.op p c.args.verdict))) c.pools.ensures
    (subst (λ w. Wrote g.K.Sink.taken g.K.Sink.faults c.args.out.now c.write_leaf.new.out c.write_leaf.result (leaf_text (at q.case.now w) q.op (leaf_in q.op c.pools.result.now c.args.verdict))) c.w.ensures.value c.write_leaf.ensures)
