use Rattle.std.proofs.Common.{◌≡◌, ◌+◌, ◌-◌, ◌≤◌, ◌++◌, slice_range, vec_len, vec_capacity}
use Rattle.lift_pool.proofs.pool.append_copy.Given as goal

abbrev pub invariant-loop-i : goal.invariant-loop-i
invariant-loop-i g l =
    (l.block.items ≡ l.initial.block.items ++ slice_range l.initial.block.items l.from l.i)
    × (vec_len l.block ≡ vec_len l.initial.block + (l.i - l.from))
    × (vec_capacity l.initial.block ≤ vec_capacity l.block)
