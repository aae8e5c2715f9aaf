use Rattle.std.proofs.Common.{◌<◌, ℕ, get_or}
use Rattle.lift_model.specs.declared.entry.Entry.{Entry}
use Rattle.lift_lump.specs.Lumped.{IsSmallEntry}
use Rattle.lift_lump.proofs.small.is_small_row.Given as goal

abbrev pub invariant-loop-entry : goal.invariant-loop-entry
invariant-loop-entry l = (k : ℕ) (d : Entry) → k < l.entry-index → IsSmallEntry (get_or l.row k d)
