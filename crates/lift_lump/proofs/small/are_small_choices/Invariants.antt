use Rattle.std.proofs.Common.{◌<◌, ℕ, List, All, get_or}
use Rattle.lift_model.specs.declared.entry.Entry.{Entry}
use Rattle.lift_lump.specs.Lumped.{IsSmallEntry}
use Rattle.lift_lump.proofs.small.are_small_choices.Given as goal

abbrev pub invariant-loop-row : goal.invariant-loop-row
invariant-loop-row l = (k : ℕ) (d : List Entry) → k < l.row-index → All IsSmallEntry (get_or l.choices k d)
