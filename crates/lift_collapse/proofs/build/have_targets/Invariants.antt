use Rattle.std.proofs.Common.{◌≡◌, All, length, take}
use Rattle.lift_collapse.specs.Building.{HasTargets}
use Rattle.lift_collapse.proofs.build.have_targets.Given as goal

-- so it is in the rows so far
abbrev pub invariant-loop-row : goal.invariant-loop-row
invariant-loop-row l = All (HasTargets (length l.initial.seen)) (take l.row-index l.rows) × (length l.seen ≡ length l.initial.seen)
