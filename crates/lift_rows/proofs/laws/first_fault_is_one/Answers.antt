use Rattle.lift_rows.proofs.Faults.{first_fault_one}
use Rattle.lift_rows.proofs.laws.first_fault_is_one.Goals as goal

pub returns-clause-one : goal.returns-clause-one
returns-clause-one c = first_fault_one
