use Rattle.std.proofs.Common.{◌∙◌, length, ap, arith}
use Rattle.lift_model.specs.Model.{ModelData}
use Rattle.rounded_iter.proofs.Raising.{start_below}
use Rattle.rounded_iter.proofs.table.Table.start.Goals as goal

pub returns : goal.returns
returns g c =
    let r = rw (← c.self.view_is) at c.requires in
    rw (← c.self.view_is)
    (start_below c.rows_at_corners.ensures.numbers c.self.inside.rule c.self.inside.rows.now.case g.spans c.loop-s.lane r.case.asked.model.goals (c.loop-s.auto.lane ∙ r.size)
    (λ i lt. rw (← c.self.view_is) at (c.loop-s.invariant i (omega (arith, lt, c.states-s-end.ensures.value, ap (λ (m : ModelData). length m.states) c.model-model.ensures, c.loop-s-test.false)))))
