use Rattle.std.proofs.Common.{◌≡◌, ◌++◌, take}
use Rattle.lift_model.specs.Links.{targets_of}
use Rattle.lift_model.proofs.layout.push_targets.Given as goal

-- the targets of the entries so far were appended
abbrev pub invariant-loop-entry : goal.invariant-loop-entry
invariant-loop-entry l = l.targets.items ≡ l.initial.targets.items ++ targets_of (take l.entry-index l.entry-items)
