use Rattle.lift_rows.proofs.Exists.{first_fault_exists}
use Rattle.lift_rows.proofs.laws.unadmitted_has_a_first_fault.Goals as goal

pub returns : goal.returns
returns c = first_fault_exists
