use Rattle.std.proofs.Common.{◌≡◌, ◌<◌, ℕ, get_or}
use Rattle.lift_model.specs.declared.entry.Entry.{Entry}
use Rattle.lift_lump.proofs.compared.are_same.Given as goal

abbrev pub invariant-loop-i : goal.invariant-loop-i
invariant-loop-i l = (k : ℕ) (d : Entry) → k < l.i → get_or l.left k d ≡ get_or l.right k d
