use Rattle.std.proofs.Common.{◌≡◌, ℕ, ◌<◌, false, pos, ◌^◌, cond, slice_index_or}
use Rattle.corner_lift.specs.Case.{number}
use Rattle.lift_bounded.proofs.vectors.write_start.Given as goal

-- the states below s were written
abbrev pub invariant-loop-s : goal.invariant-loop-s
invariant-loop-s l = (i : ℕ) → i < l.s → number l.lane i ≡ cond (slice_index_or l.case.model.goal i false) (pos (2 ^ l.case.w)) (pos 0)
