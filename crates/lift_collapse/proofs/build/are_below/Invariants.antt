use Rattle.std.proofs.Common.{◌<◌, ℕ, slice_index_or}
use Rattle.lift_collapse.proofs.build.are_below.Given as goal

-- the numbers so far are below it
abbrev pub invariant-loop-number : goal.invariant-loop-number
invariant-loop-number l = (i : ℕ) → i < l.number-index → slice_index_or l.numbers i 0 < l.limit
