use Rattle.corner_lift.specs.Certificate.{MeansAtMost, MeansAtLeast, IsRate}
use Rattle.corner_lift.specs.Stages.{LeadsBelow}
use Rattle.lift_finer.proofs.Homogeneous.{parameters_stay, weights_are_homogeneous, sums_are_homogeneous, wholes_are_homogeneous}
use Rattle.lift_finer.proofs.Alike.{IsEnough, knows_no_grid, most_carry, least_carry, enough_carry, leads_carry}
use Rattle.lift_finer.proofs.Vectors.{rate_carries}
use Rattle.lift_finer.proofs.laws.weights_are_homogeneous.Goals as goal

pub returns : goal.returns
returns c = record {
  parameters = parameters_stay;
  weights = weights_are_homogeneous;
  sums = sums_are_homogeneous;
  wholes = wholes_are_homogeneous;
  most = λ row x n. knows_no_grid (λ k spans. MeansAtMost k spans row x n) (most_carry row x n);
  least = λ row y n. knows_no_grid (λ k spans. MeansAtLeast k spans row y n) (least_carry row y n);
  shares = λ row y n. knows_no_grid (IsEnough row y n) (enough_carry row y n);
  rates = λ r e s. knows_no_grid (λ k spans. IsRate k spans r e s) (rate_carries r e s);
  leads = λ rank r s a. knows_no_grid (λ k spans. LeadsBelow k spans rank r s a) (leads_carry rank r s a);
}
