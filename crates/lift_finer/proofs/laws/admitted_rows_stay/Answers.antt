use Rattle.lift_finer.proofs.Admitted.{admitted_rows_stay}
use Rattle.lift_finer.proofs.laws.admitted_rows_stay.Goals as goal

pub returns : goal.returns
returns c = admitted_rows_stay
