use Rattle.lift_bounded.specs.Stepping.{IsLeastFor}
use Rattle.lift_bounded.proofs.steps.covering.Given as goal

abbrev pub ghost-raised : goal.ghost-raised
ghost-raised g a = g.spans

-- the choices below a were taken
abbrev pub invariant-loop-a : goal.invariant-loop-a
invariant-loop-a g l = IsLeastFor l.rows.case g.spans l.old l.s l.a l.number
