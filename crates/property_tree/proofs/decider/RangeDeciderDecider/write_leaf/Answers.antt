use Rattle.std.proofs.Common.{subst}
use Rattle.lift_base.specs.Outside.{Wrote}
use Rattle.corner_lift.specs.Case.{at}
use Rattle.property_tree.specs.Decided.{leaf_in}
use Rattle.property_tree.specs.Text.{leaf_text}
use Rattle.property_tree.proofs.decider.RangeDeciderDecider.write_leaf.Goals as goal

pub write_leaf-requires-clause-u : goal.write_leaf-requires-clause-u
write_leaf-requires-clause-u g c = c.args.verdict.small

pub write_leaf-requires-clause-pools : goal.write_leaf-requires-clause-pools
write_leaf-requires-clause-pools g c = rw c.pools.ensures c.requires.ready.1.1.has.pools

pub returns-in_err-write_at : goal.returns-in_err-write_at
returns-in_err-write_at g c = c.writes_in_turn.ensures.stopped _ _ _ _ _ _ c.from_residual.ensures.0 c.in_err-write_at.ensures

pub returns : goal.returns
returns g c =
    let q = c.args.self.now.question.now in
    let found = c.args.verdict in
    c.writes_in_turn.ensures.both _ _ _ _ _ _ c.in_ok-write_at.ensures
    (subst (λ p. Wrote g.K.Sink.taken g.K.Sink.faults c.write_at.new.out c.write_leaf.new.out c.write_leaf.result (leaf_text (at q.case.now found.u) q.op (leaf_in q.op p found.side))) c.pools.ensures c.write_leaf.ensures)
