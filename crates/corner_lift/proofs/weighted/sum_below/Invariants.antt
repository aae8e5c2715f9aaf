use Rattle.std.proofs.Common.{◌*◌, ◌^◌, length}
use Rattle.corner_lift.specs.Certificate.{ranked_below, mark}
use Rattle.corner_lift.specs.Ends.{greatest_end}
use Rattle.corner_lift.proofs.Summing.{IsRowSummed}
use Rattle.corner_lift.proofs.weighted.sum_below.Given as goal

-- the entries so far were summed
abbrev pub invariant-loop-entry : goal.invariant-loop-entry
invariant-loop-entry l = IsRowSummed l.case.d l.ends (greatest_end l.case.d l.ends ^ length l.ends * 2 ^ l.case.w) (ranked_below (mark l.ranks) l.below) l.entry-items l.sum l.entry-index
