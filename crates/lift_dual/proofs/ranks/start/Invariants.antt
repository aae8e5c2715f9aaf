use Rattle.robust_rank.specs.Staging.{IsStarting}
use Rattle.lift_dual.proofs.ranks.start.Given as goal

abbrev pub invariant-loop-s : goal.invariant-loop-s
invariant-loop-s l = IsStarting l.case l.ranks l.queue l.s l.found
