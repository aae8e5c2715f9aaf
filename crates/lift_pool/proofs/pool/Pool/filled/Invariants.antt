use Rattle.std.proofs.Common.{◌≡◌, ◌-◌, ◌*◌, ◌≤◌, replicate}
use Rattle.lift_pool.proofs.pool.Pool.filled.Given as goal

-- so many lanes are taken, and the others can be
abbrev pub invariant-loop : goal.invariant-loop
invariant-loop g l = record {
  lanes : l.pool.lanes ≡ replicate l.counter (replicate l.len l.fill);
  words : (l.count - l.counter) * l.len ≤ l.pool.spare;
  left : l.count - l.counter ≤ l.pool.spare_lanes;
}
