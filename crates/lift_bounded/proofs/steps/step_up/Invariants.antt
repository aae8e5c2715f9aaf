use Rattle.std.proofs.Common.{◌≡◌, ℕ, ◌<◌, false}
use Rattle.corner_lift.specs.Case.{number}
use Rattle.lift_bounded.specs.Stepping.{IsUpperAt}
use Rattle.lift_bounded.proofs.steps.step_up.Given as goal

abbrev pub ghost-upper_at : goal.ghost-upper_at
ghost-upper_at g a = g.spans

-- the states below s were written
abbrev pub invariant-loop-s : goal.invariant-loop-s
invariant-loop-s g l = record {
  each : (i : ℕ) → i < l.s → IsUpperAt l.rows.case g.spans l.old i (number l.new i);
  same : l.changed ≡ false → (i : ℕ) → i < l.s → number l.old i ≡ number l.new i;
}
