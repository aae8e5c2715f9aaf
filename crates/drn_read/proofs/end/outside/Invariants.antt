use Rattle.std.proofs.Common.{◌≡◌, drop}
use Rattle.drn_read.specs.Shown.{outside, first_in}
use Rattle.drn_read.proofs.end.outside.Given as goal

abbrev pub invariant-loop-state : goal.invariant-loop-state
invariant-loop-state l = first_in (λ s. first_in (first_in (outside l.count)) s.choices) (drop l.state-index l.states) ≡ first_in (λ s. first_in (first_in (outside l.count)) s.choices) l.states
