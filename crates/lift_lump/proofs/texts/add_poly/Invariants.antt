use Rattle.std.proofs.Common.{◌≡◌, ◌++◌, length, take}
use Rattle.std.specs.List.{flat_map}
use Rattle.lift_lump.specs.Comparing.{size_text, term_text}
use Rattle.lift_lump.proofs.texts.add_poly.Given as goal

abbrev pub invariant-loop-index : goal.invariant-loop-index
invariant-loop-index l = l.text.items ≡ (l.fn.text.items ++ size_text (length l.poly)) ++ flat_map term_text (take l.index l.poly)
