use Rattle.std.proofs.Common.{sym, subst}
use Rattle.lift_base.specs.Outside.{Wrote}
use Rattle.corner_lift.specs.Case.{at}
use Rattle.property_tree.specs.Decided.{leaf_in}
use Rattle.property_tree.specs.Text.{leaf_text}
use Rattle.property_tree.proofs.question.Question.write_leaf.Goals as goal

pub returns-in-Below : goal.returns-in-Below
returns-in-Below g c =
    let q = c.args.self.now in
    subst
    (λ verdict. Wrote g.K.Sink.taken g.K.Sink.faults c.args.out.now c.write_below.new.out c.write_below.result
    (leaf_text (at q.case.now c.args.u) q.op (leaf_in q.op c.args.pools.now verdict)))
    (sym c.in-Below.is) c.write_below.ensures
