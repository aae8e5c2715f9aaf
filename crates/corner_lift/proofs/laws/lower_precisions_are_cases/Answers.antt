use Rattle.corner_lift.proofs.Precisions.{lower_precision_is_case}
use Rattle.corner_lift.proofs.laws.lower_precisions_are_cases.Goals as goal

pub returns : goal.returns
returns c = lower_precision_is_case
