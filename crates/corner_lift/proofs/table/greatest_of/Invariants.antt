use Rattle.corner_lift.specs.Case.{number, IsGreatest}
use Rattle.corner_lift.specs.Dot.{dot, corner_part}
use Rattle.corner_lift.proofs.table.greatest_of.Given as goal

-- the greatest of the corners so far
abbrev pub invariant-loop-corner : goal.invariant-loop-corner
invariant-loop-corner l = IsGreatest (λ c. dot (number l.vec) (corner_part l.weights l.place c) l.targets) l.corner l.greatest
