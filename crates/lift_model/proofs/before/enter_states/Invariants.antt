use Rattle.std.proofs.Common.{length, take}
use Rattle.lift_model.specs.Before.{at, ArePlaced, HaveGrown, AreListed, part}
use Rattle.lift_model.proofs.before.enter_states.Given as goal

-- the states so far were entered
abbrev pub invariant-loop-s : goal.invariant-loop-s
invariant-loop-s l = record {
  placed : ArePlaced l.starts l.ends (length l.states) (length l.initial.ends);
  grown : HaveGrown l.initial.ends l.ends (length l.initial.ends) (take (at l.cuts l.s) l.targets);
  listed : AreListed (length l.initial.ends) l.targets l.cuts (part l.starts l.ends l.states) l.s;
}
