use Rattle.std.proofs.Common.{◌≡◌, drop}
use Rattle.drn_read.specs.Shown.{outside, first_in}
use Rattle.drn_read.proofs.end.outside_in_state.Given as goal

abbrev pub invariant-loop-choice : goal.invariant-loop-choice
invariant-loop-choice l = first_in (λ row. first_in (outside l.count) row.items) (drop l.choice-index l.choices) ≡ first_in (λ row. first_in (outside l.count) row.items) l.choices
