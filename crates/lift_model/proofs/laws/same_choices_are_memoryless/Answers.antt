use Rattle.lift_model.proofs.Timing.{same_choices_are_memoryless}
use Rattle.lift_model.proofs.laws.same_choices_are_memoryless.Goals as goal

pub returns : goal.returns
returns c = same_choices_are_memoryless
