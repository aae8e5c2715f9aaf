use Rattle.std.proofs.Common.{◌≡◌, drop}
use Rattle.drn_read.specs.Shown.{outside, first_in}
use Rattle.drn_read.proofs.end.outside_in_choice.Given as goal

abbrev pub invariant-loop-transition : goal.invariant-loop-transition
invariant-loop-transition l = first_in (outside l.count) (drop l.transition-index l.choice) ≡ first_in (outside l.count) l.choice
