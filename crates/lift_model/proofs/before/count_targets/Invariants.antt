use Rattle.std.proofs.Common.{◌≡◌, ◌<◌, ℕ, length, take}
use Rattle.lift_model.specs.Before.{at, count_of}
use Rattle.lift_model.proofs.before.count_targets.Given as goal

-- the targets so far were counted
abbrev pub invariant-loop-target : goal.invariant-loop-target
invariant-loop-target l = (u : ℕ) → u < length l.counts → at l.counts u ≡ count_of u (take l.target-index l.targets)
