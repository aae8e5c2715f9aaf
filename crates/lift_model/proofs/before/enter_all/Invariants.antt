use Rattle.std.proofs.Common.{length, take}
use Rattle.lift_model.specs.Before.{AreEntered}
use Rattle.lift_model.proofs.before.enter_all.Given as goal

-- the state was entered at the targets so far
abbrev pub invariant-loop-target : goal.invariant-loop-target
invariant-loop-target l = AreEntered l.starts l.initial.ends l.initial.states l.ends l.states (length l.initial.ends) l.s (take l.target-index l.targets)
