use Rattle.std.proofs.Common.{◌≡◌, take}
use Rattle.property_text.proofs.cut.kept_row.Given as goal

-- the entries so far
abbrev pub invariant-loop-entry : goal.invariant-loop-entry
invariant-loop-entry l = l.entries.items ≡ take l.entry-index l.entry-items
