use Rattle.std.proofs.Common.{ℕ, ◌<◌}
use Rattle.corner_lift.specs.Certificate.{mark}
use Rattle.corner_lift.specs.Stages.{LeadsBelow}
use Rattle.lift_dual.proofs.ranks.all_lead_below.Given as goal

abbrev pub ghost-leads_below : goal.ghost-leads_below
ghost-leads_below g a = g.spans

-- the choices before this one do
abbrev pub invariant-loop-a : goal.invariant-loop-a
invariant-loop-a g l = (b : ℕ) → b < l.a → LeadsBelow l.rows.case g.spans (mark l.ranks) l.below l.s b
