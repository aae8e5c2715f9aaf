use Rattle.std.proofs.Common.{◌≡◌, take}
use Rattle.std.specs.List.{flat_map}
use Rattle.lift_lump.specs.Comparing.{entry_text}
use Rattle.lift_lump.proofs.texts.text_of.Given as goal

abbrev pub invariant-loop-entry : goal.invariant-loop-entry
invariant-loop-entry l = l.text.items ≡ flat_map entry_text (take l.entry-index l.row)
