use Rattle.lift_poly.proofs.Coefficients.{coefficient-sum, coefficient-scaled, coefficient-product, polynomial-quotient}
use Rattle.lift_poly.proofs.Division.{times-quotient}
use Rattle.lift_poly.proofs.Products.{times_is}
use Rattle.lift_poly.proofs.laws.coefficients_follow.Goals as goal

pub returns : goal.returns
returns c = record {
  sums = coefficient-sum;
  multiples = coefficient-scaled;
  products = coefficient-product;
  kept = times_is;
  exact = times-quotient;
  quotients = polynomial-quotient;
}
