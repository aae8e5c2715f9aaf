use Rattle.lift_bounded.specs.Stepping.{IsGreatestFor}
use Rattle.lift_bounded.proofs.steps.best.Given as goal

abbrev pub ghost-held : goal.ghost-held
ghost-held g a = g.spans

-- the choices below a were taken
abbrev pub invariant-loop-a : goal.invariant-loop-a
invariant-loop-a g l = IsGreatestFor l.rows.case g.spans l.old l.s l.a l.chosen
