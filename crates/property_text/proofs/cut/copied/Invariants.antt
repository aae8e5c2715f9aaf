use Rattle.std.proofs.Common.{◌≡◌, take}
use Rattle.property_text.proofs.cut.copied.Given as goal

-- the names so far are copied
abbrev pub invariant-loop-i : goal.invariant-loop-i
invariant-loop-i l = l.copy ≡ take l.i l.names
