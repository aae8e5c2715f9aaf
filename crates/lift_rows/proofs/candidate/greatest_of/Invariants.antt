use Rattle.std.proofs.Common.{◌≡◌, take, unsigned_abs}
use Rattle.lift_rows.proofs.Widths.{greatest_from}
use Rattle.lift_rows.proofs.candidate.greatest_of.Given as goal

-- the greatest so far
abbrev pub invariant-loop-side : goal.invariant-loop-side
invariant-loop-side l = l.greatest ≡ greatest_from (unsigned_abs l.d) (take l.side-index l.sides)
