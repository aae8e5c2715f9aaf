use Rattle.std.proofs.Common.{arith}
use Rattle.lift_dual.proofs.Ranking.{none_counted}
use Rattle.lift_dual.proofs.ranks.clear.Goals as goal

pub returns-clause-count : goal.returns-clause-count
returns-clause-count c = none_counted c.loop-s.ranks (λ s lt. c.loop-s.invariant s (omega (arith, lt, c.loop-s-test.false, c.loop-s.auto.ranks)))
