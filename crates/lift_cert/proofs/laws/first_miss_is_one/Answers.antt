use Rattle.lift_cert.proofs.Misses.{first_accept_miss_is_one, accepting_misses_none}
use Rattle.lift_cert.proofs.RejectMisses.{first_reject_miss_is_one, rejecting_misses_none}
use Rattle.lift_cert.proofs.laws.first_miss_is_one.Goals as goal

pub returns : goal.returns
returns c = record { one = first_accept_miss_is_one; none = accepting_misses_none c.rows_at_corners.ensures.parameters; one_reject = first_reject_miss_is_one; none_reject = rejecting_misses_none c.rows_at_corners.ensures.parameters }
