-- The laws of the crates below that rows at corners rest on.
use Rattle.lift_poly.specs.Laws.{IsAffineInEach}
use Rattle.lift_model.specs.Laws.{WeightedSumsAreNotNegative, WeightedSumsRise}

-- polynomials are affine in each parameter, and weighted sums are from 0 on and rise with the numbers
pub record Premises : Type 0 where
  pub affine : IsAffineInEach
  pub least : WeightedSumsAreNotNegative
  pub rise : WeightedSumsRise
