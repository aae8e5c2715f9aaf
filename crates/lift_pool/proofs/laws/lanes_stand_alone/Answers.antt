use Rattle.lift_pool.proofs.Cutting.{lane_alone, pool_without_last-pool_with}
use Rattle.lift_pool.proofs.laws.lanes_stand_alone.Goals as goal

pub returns-clause-writes : goal.returns-clause-writes
returns-clause-writes g c p i lane below size = lane_alone p i lane below size

pub returns-clause-undone : goal.returns-clause-undone
returns-clause-undone g c p lane words lanes = pool_without_last-pool_with p lane words lanes
