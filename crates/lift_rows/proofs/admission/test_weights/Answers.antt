use Rattle.lift_model.specs.Model.{row_at}
use Rattle.lift_rows.proofs.RowTests.{least_at}
use Rattle.lift_rows.proofs.admission.test_weights.Goals as goal

pub returns-in_default-clause-fault : goal.returns-in_default-clause-fault
returns-in_default-clause-fault c = let k = c.args.asked.now in least_at k.d k.root (row_at k.model c.args.state c.args.choice) c.in_default.ensures.first
