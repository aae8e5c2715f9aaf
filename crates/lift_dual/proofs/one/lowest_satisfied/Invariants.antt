use Rattle.std.proofs.Common.{ℕ, ◌<◌}
use Rattle.lift_dual.specs.Choosing.{IsSatisfied}
use Rattle.lift_dual.proofs.one.lowest_satisfied.Given as goal

abbrev pub ghost-is_satisfied : goal.ghost-is_satisfied
ghost-is_satisfied g a = g.spans

-- the choices before this one don't do
abbrev pub invariant-loop-choice : goal.invariant-loop-choice
invariant-loop-choice g l = (b : ℕ) → b < l.choice → IsSatisfied l.rows.case g.spans l.lane l.s b → ⊥
