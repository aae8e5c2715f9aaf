-- What a pool ends as, where a lane is lent to be written.
use Rattle.std.specs.Prelude.{ℕ, List}
use Rattle.std.specs.Borrow.{Lends, Fml, RattleType, MutBor, Array}
use Rattle.lift_pool.specs.Lanes.{PoolData, pool_written}
use Rattle.lift_pool.specs.contracts.pool.Pool.{the_row}

-- once the borrow r ends, lane i holds what r shows last, and nothing else has changed
abbrev pub LendsLane : (T : RattleType) → MutBor (PoolData T.Denot) → ℕ → MutBor (List T.Denot) → Fml
LendsLane T p i r = Lends (the_row T) (Array T 0) p r (pool_written p.now i)
