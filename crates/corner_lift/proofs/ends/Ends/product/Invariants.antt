use Rattle.corner_lift.proofs.Gathering.{IsMultiplied}
use Rattle.corner_lift.proofs.ends.Ends.product.Given as goal

-- the factors so far were multiplied
abbrev pub invariant-loop-parameter : goal.invariant-loop-parameter
invariant-loop-parameter l = IsMultiplied l.d l.parameter-items l.set l.coefficient l.product l.parameter-index
