use Rattle.corner_lift.specs.Certificate.{IsUpper, IsLeastUpper, IsLower}
use Rattle.corner_lift.specs.Stages.{IsAllowed, AreStages, IsGreatestLower}
use Rattle.lift_finer.proofs.Alike.{knows_no_grid}
use Rattle.lift_finer.proofs.Vectors.{upper_carries, least_upper_carries, lower_carries, stages_carry, greatest_lower_carries}
use Rattle.lift_finer.proofs.laws.vectors_stay.Goals as goal

pub returns : goal.returns
returns c = record {
  uppers = λ x. knows_no_grid (λ k spans. IsUpper k spans x) (upper_carries x);
  least = λ x. knows_no_grid (λ k spans. IsLeastUpper k spans x) (least_upper_carries x);
  lowers = λ r. knows_no_grid (λ k spans. IsLower k spans r) (lower_carries r);
  stages = λ y pick rank. knows_no_grid (λ k spans. AreStages k spans (IsAllowed k spans y) pick rank) (stages_carry y pick rank);
  greatest = λ r. knows_no_grid (λ k spans. IsGreatestLower k spans r) (greatest_lower_carries r);
}
