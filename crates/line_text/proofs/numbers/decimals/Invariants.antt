use Rattle.std.proofs.Common.{length}
use Rattle.line_text.specs.Words.{number_of}
use Rattle.line_text.specs.Shown.{Goes}
use Rattle.line_text.proofs.numbers.decimals.Given as goal

abbrev pub invariant-loop-rest : goal.invariant-loop-rest
invariant-loop-rest l = Goes number_of l.fn.words l.numbers.items l.rest

abbrev pub decreases-loop-rest : goal.decreases-loop-rest
decreases-loop-rest l = length l.rest
