use Rattle.std.proofs.Common.{◌-◌, ◌+◌, length}
use Rattle.lift_lump.specs.Finding.{IsAtWork}
use Rattle.lift_lump.proofs.coarsest.find_coarsest.Given as goal

abbrev pub invariant-loop-work : goal.invariant-loop-work
invariant-loop-work l = IsAtWork l.model l.work

abbrev pub decreases-loop-work : goal.decreases-loop-work
decreases-loop-work l = length l.model.states + 2 - length l.work.part.members
