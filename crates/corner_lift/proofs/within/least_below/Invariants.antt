use Rattle.corner_lift.specs.Certificate.{mark, ranked_below}
use Rattle.corner_lift.specs.Case.{IsLeast}
use Rattle.corner_lift.specs.Dot.{dot, corner_part}
use Rattle.corner_lift.proofs.within.least_below.Given as goal

-- the least of the corners so far
abbrev pub invariant-loop-corner : goal.invariant-loop-corner
invariant-loop-corner l = IsLeast (λ c. dot (ranked_below (mark l.ranks) l.below) (corner_part l.weights l.place c) l.targets) l.corner l.least
