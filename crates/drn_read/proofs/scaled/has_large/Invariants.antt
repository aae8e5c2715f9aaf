use Rattle.std.proofs.Common.{◌≡◌, false, take}
use Rattle.std.specs.List.{list_any}
use Rattle.drn_read.specs.Shown.{is_over}
use Rattle.drn_read.proofs.scaled.has_large.Given as goal

abbrev pub invariant-loop-i : goal.invariant-loop-i
invariant-loop-i l = list_any is_over (take l.i l.poly) ≡ false
