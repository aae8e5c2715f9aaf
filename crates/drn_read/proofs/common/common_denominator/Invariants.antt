use Rattle.std.proofs.Common.{◌≡◌, fold, take}
use Rattle.lift_frac.specs.Parts.{capped}
use Rattle.drn_read.specs.Shown.{with_den}
use Rattle.lift_model.specs.Valid.{common_limit}
use Rattle.drn_read.proofs.common.common_denominator.Given as goal

abbrev pub invariant-loop-state : goal.invariant-loop-state
invariant-loop-state l = l.least ≡ capped common_limit (fold (λ c s. fold (fold with_den) c s.choices) 1 (take l.state-index l.states))
