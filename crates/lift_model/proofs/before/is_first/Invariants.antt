use Rattle.std.proofs.Common.{◌≤◌, All, take}
use Rattle.lift_model.proofs.before.is_first.Given as goal

-- those so far lie at or behind it
abbrev pub invariant-loop-p : goal.invariant-loop-p
invariant-loop-p l = All (λ p. l.position ≤ p) (take l.p-index l.positions)
