use Rattle.corner_lift.proofs.Quotients.{IsCeiling, ceiling_of, ceiling_fits, ceiling_is}
use Rattle.corner_lift.proofs.quotient.divided.Goals as goal

ceiling : (c : goal.After-div_ceil) → IsCeiling c.args.sum c.args.whole c.div_ceil.result
ceiling c = ceiling_of c.args.sum c.args.whole c.div_ceil.result c.ranges.sum c.ranges.whole c.requires.least c.requires.positive c.requires.most c.div_ceil.ensures

pub overflow_cast-result : goal.overflow_cast-result
overflow_cast-result c = ceiling_fits c.div_ceil.result (ceiling c).fits

pub returns : goal.returns
returns c = rw (ceiling_is c.div_ceil.result (ceiling c).fits) ((ceiling c).enough, (ceiling c).least)
