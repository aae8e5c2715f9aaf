use Rattle.lift_rows.proofs.RowTests.{case_weights, case_sums}
use Rattle.lift_rows.proofs.laws.cases_have_distributions.Goals as goal

pub returns : goal.returns
returns c = record { weights = case_weights c.rows_inside.ensures.weights c.rows_inside.ensures.root; sums = case_sums c.rows_inside.ensures.sums }
