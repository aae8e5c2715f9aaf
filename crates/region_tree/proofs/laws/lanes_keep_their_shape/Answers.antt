use Rattle.region_tree.proofs.Goings.{begun_keeps, lanes_kept, same_shape, shape_then}
use Rattle.region_tree.proofs.laws.lanes_keep_their_shape.Goals as goal

pub returns-clause-stays : goal.returns-clause-stays
returns-clause-stays c = same_shape

pub returns-clause-chain : goal.returns-clause-chain
returns-clause-chain c = shape_then

pub returns-clause-forgetting : goal.returns-clause-forgetting
returns-clause-forgetting c = begun_keeps

pub returns-clause-lanes : goal.returns-clause-lanes
returns-clause-lanes c = lanes_kept
