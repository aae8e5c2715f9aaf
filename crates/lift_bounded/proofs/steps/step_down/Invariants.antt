use Rattle.std.proofs.Common.{◌≡◌, ℕ, ◌<◌, false}
use Rattle.corner_lift.specs.Case.{number}
use Rattle.corner_lift.specs.Certificate.{mark}
use Rattle.lift_bounded.specs.Stepping.{IsLowerAt}
use Rattle.lift_bounded.proofs.steps.step_down.Given as goal

abbrev pub ghost-lower_at : goal.ghost-lower_at
ghost-lower_at g a = g.spans

-- the states below s were written
abbrev pub invariant-loop-s : goal.invariant-loop-s
invariant-loop-s g l = record {
  each : (i : ℕ) → i < l.s → IsLowerAt l.rows.case g.spans l.old i (number l.new i) (mark l.picks i);
  same : l.changed ≡ false → (i : ℕ) → i < l.s → number l.old i ≡ number l.new i;
}
