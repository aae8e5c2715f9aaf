use Rattle.lift_dual.proofs.Apart.{sides_are_apart, each_has_a_side}
use Rattle.lift_dual.proofs.laws.sides_are_apart.Goals as goal

pub returns : goal.returns
returns c = record { apart = sides_are_apart; each = each_has_a_side }
