use Rattle.robust_rank.specs.Staging.{IsStarting}
use Rattle.robust_rank.proofs.ranking.start.Given as goal

abbrev pub invariant-loop-s : goal.invariant-loop-s
invariant-loop-s l = IsStarting l.case l.ranks l.queue l.s l.found
