use Rattle.lift_bounded.proofs.Single.{least_uppers_are_one, greatest_lowers_are_one}
use Rattle.lift_bounded.proofs.laws.certificates_by_steps_are_one.Goals as goal

pub returns : goal.returns
returns c = record { least = least_uppers_are_one; greatest = greatest_lowers_are_one }
