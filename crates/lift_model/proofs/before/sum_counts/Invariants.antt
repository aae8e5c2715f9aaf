use Rattle.std.proofs.Common.{◌≡◌, sum, take}
use Rattle.lift_model.specs.Before.{at, AreSums}
use Rattle.lift_model.proofs.before.sum_counts.Given as goal

-- the counts so far were summed
abbrev pub invariant-loop-count : goal.invariant-loop-count
invariant-loop-count l = record { sums : AreSums l.starts.items l.counts l.count-index; last : at l.starts.items l.count-index ≡ l.sum; total : l.sum ≡ sum (take l.count-index l.counts) }
