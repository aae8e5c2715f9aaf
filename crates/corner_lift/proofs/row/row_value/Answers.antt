use Rattle.corner_lift.proofs.Cases.{row_in_case}
use Rattle.corner_lift.proofs.row.row_value.Goals as goal

pub value_at-requires-clause-row : goal.value_at-requires-clause-row
value_at-requires-clause-row c = row_in_case c.args.case.now c.model.result.now c.row-row.result.now c.args.s c.args.a c.model.ensures.value c.row-row.ensures.value c.model.ensures.case c.requires.state c.requires.choice
