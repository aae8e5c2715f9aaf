use Rattle.lift_rows.proofs.RowTests.{small_row}
use Rattle.lift_rows.proofs.admission.test_sums.Goals as goal

pub sum_fault-requires-clause-small : goal.sum_fault-requires-clause-small
sum_fault-requires-clause-small c = rw (c.row.ensures.value, c.model-model.ensures.value) (small_row c.args.asked.now.model c.args.state c.args.choice c.model-model.ensures.asked.model c.requires.state c.requires.choice)
