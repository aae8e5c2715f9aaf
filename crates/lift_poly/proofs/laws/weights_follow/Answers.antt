use Rattle.lift_poly.proofs.Weights.{weight-collected, weight-sum, weight-scaled, weight-product, weight-split}
use Rattle.lift_poly.proofs.laws.weights_follow.Goals as goal

pub returns : goal.returns
returns c = record { terms = weight-collected; sums = weight-sum; multiples = weight-scaled; products = weight-product; affine = weight-split }
