use Rattle.std.proofs.Common.{All}
use Rattle.corner_lift.specs.Paired.{IsNoneOrPair}
use Rattle.corner_lift.proofs.paired.PairTable.of.Given as goal

-- what was looked up so far is of rows of two entries
abbrev pub invariant-loop-block : goal.invariant-loop-block
invariant-loop-block l = All (IsNoneOrPair l.weights) l.pairs
