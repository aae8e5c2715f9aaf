use Rattle.std.proofs.Common.{◌≡◌, ℕ, ◌<◌, if◌then◌else◌}
use Rattle.lift_model.specs.Model.{is_goal}
use Rattle.corner_lift.specs.Certificate.{mark, unmarked}
use Rattle.lift_dual.proofs.chain.choose_first.Given as goal

-- the states before this one have their choices
abbrev pub invariant-loop-s : goal.invariant-loop-s
invariant-loop-s l = (t : ℕ) → t < l.s → mark l.picks t ≡ (if is_goal l.model t then unmarked else 0)
