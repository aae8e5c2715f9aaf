use Rattle.std.proofs.Common.{◌≡◌, length}
use Rattle.lift_collapse.proofs.Stamps.{AreStamped}
use Rattle.lift_collapse.proofs.build.has_targets.Given as goal

-- the targets so far have the stamp, and none stands twice
abbrev pub invariant-loop-entry : goal.invariant-loop-entry
invariant-loop-entry l = AreStamped l.entry-items l.seen l.stamp l.entry-index × (length l.seen ≡ length l.initial.seen)
