use Rattle.std.proofs.Common.{◌≡◌, false, take}
use Rattle.std.specs.List.{list_any}
use Rattle.drn_expr.specs.RatPolys.{is_large}
use Rattle.drn_expr.proofs.rat_poly.has_large.Given as goal

abbrev pub invariant-loop-i : goal.invariant-loop-i
invariant-loop-i l = list_any is_large (take l.i l.poly) ≡ false
