use Rattle.std.proofs.Common.{◌≡◌, All, length, take}
use Rattle.lift_collapse.specs.Building.{HasTargets}
use Rattle.lift_collapse.proofs.build.all_have_targets.Given as goal

-- so it is in the rows of the states so far
abbrev pub invariant-loop-rows : goal.invariant-loop-rows
invariant-loop-rows l = All (λ v. All (HasTargets (length l.states)) v.items) (take l.rows-index l.states) × (length l.seen ≡ length l.states)
