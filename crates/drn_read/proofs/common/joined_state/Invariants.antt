use Rattle.std.proofs.Common.{fold, take}
use Rattle.drn_read.specs.Shown.{with_den, Becomes}
use Rattle.drn_read.proofs.common.joined_state.Given as goal

abbrev pub invariant-loop-choice : goal.invariant-loop-choice
invariant-loop-choice l = Becomes l.fn.common l.least (λ c. fold (λ d row. fold with_den d row.items) c (take l.choice-index l.choices))
