use Rattle.std.proofs.Common.{◌≡◌, ◌+◌, ◌≤◌, ◌++◌, replicate, vec_len, vec_capacity}
use Rattle.lift_pool.proofs.pool.append.Given as goal

abbrev pub invariant-loop : goal.invariant-loop
invariant-loop g l =
    (l.block.items ≡ l.initial.block.items ++ replicate l.counter l.value)
    × (vec_len l.block ≡ vec_len l.initial.block + l.counter)
    × (vec_capacity l.initial.block ≤ vec_capacity l.block)
