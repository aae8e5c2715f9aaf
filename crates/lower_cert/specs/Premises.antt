-- The laws of rows at corners that the proofs here rest on.
use Rattle.corner_lift.specs.Laws.{NumbersAreInRange, ParametersAreTheRoots, SumsRise, SumsAreAtMost, SumsAreAtLeast}

-- a vector's numbers lie in their range, a row has as many parameters as in the root, its sums rise with the numbers, and lie between what equal numbers give
pub record Premises : Type 0 where
  pub numbers : NumbersAreInRange
  pub parameters : ParametersAreTheRoots
  pub rise : SumsRise
  pub most : SumsAreAtMost
  pub least : SumsAreAtLeast
