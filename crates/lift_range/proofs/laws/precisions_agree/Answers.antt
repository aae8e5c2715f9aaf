use Rattle.lift_range.proofs.Doubling.{not_both_kinds_at_precisions}
use Rattle.lift_range.proofs.laws.precisions_agree.Goals as goal

pub returns : goal.returns
returns c = not_both_kinds_at_precisions c.certificates_are_of_one_kind.ensures.one
