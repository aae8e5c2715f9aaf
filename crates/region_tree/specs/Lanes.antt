-- What the decision of a rectangle works in.
use Rattle.std.specs.Prelude.{ℤ, Option}
use Rattle.lift_pool.specs.Lanes.{PoolData}
use Rattle.lift_collapse.specs.Filled.{LinkedCollapse}
use Rattle.region_tree.specs.Recent.{DecidedData}
use Rattle.region_tree.specs.declared.pools.Pools.{Pools}

-- the collapsed model of the case, if it is worth one, the table of corner weights, the lanes in which vectors are found, and the rectangles of a walk that were decided last
pub record LanesData : Type 0 where
  pub collapse : Option LinkedCollapse
  pub weights : PoolData ℤ
  pub pools : Pools
  pub decided : DecidedData
