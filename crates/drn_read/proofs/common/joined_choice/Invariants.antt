use Rattle.std.proofs.Common.{fold, take}
use Rattle.drn_read.specs.Shown.{with_den, Becomes}
use Rattle.drn_read.proofs.common.joined_choice.Given as goal

abbrev pub invariant-loop-transition : goal.invariant-loop-transition
invariant-loop-transition l = Becomes l.fn.common l.least (λ c. fold with_den c (take l.transition-index l.choice))
