use Rattle.lift_pool.proofs.Shapes.{lanes_have_lengths, same_shapes_have_lengths, writes_keep_shape, one_lane_is_all}
use Rattle.lift_pool.proofs.laws.lanes_have_shapes.Goals as goal

pub returns-clause-lengths : goal.returns-clause-lengths
returns-clause-lengths g c p count n i has lt = lanes_have_lengths g.row.T.Denot p count n i has lt

pub returns-clause-same : goal.returns-clause-same
returns-clause-same g c p q i same = same_shapes_have_lengths g.row.T.Denot p q i same

pub returns-clause-writes : goal.returns-clause-writes
returns-clause-writes g c p i lane size = writes_keep_shape g.row.T.Denot p i lane size

pub returns-clause-one : goal.returns-clause-one
returns-clause-one g c p n lane has = one_lane_is_all g.row.T.Denot p n lane has
