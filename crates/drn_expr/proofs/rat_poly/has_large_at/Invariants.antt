use Rattle.std.proofs.Common.{◌≡◌, false, take}
use Rattle.drn_expr.specs.Laws.{is_large_at}
use Rattle.drn_expr.proofs.rat_poly.has_large_at.Given as goal

abbrev pub invariant-loop-i : goal.invariant-loop-i
invariant-loop-i l = is_large_at l.poly (take l.i l.terms) ≡ false
