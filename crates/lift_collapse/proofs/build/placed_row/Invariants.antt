use Rattle.std.proofs.Common.{◌≡◌, map, take}
use Rattle.lift_collapse.specs.Building.{entry_at_place}
use Rattle.lift_collapse.proofs.build.placed_row.Given as goal

-- the entries so far
abbrev pub invariant-loop-entry : goal.invariant-loop-entry
invariant-loop-entry l = l.entries.items ≡ map (entry_at_place l.places) (take l.entry-index l.entry-items)
