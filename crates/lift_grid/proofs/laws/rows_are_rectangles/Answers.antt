use Rattle.lift_grid.proofs.Sides.{spans_of-sides_of, sides-of_spans, end_in_row}
use Rattle.lift_grid.proofs.laws.rows_are_rectangles.Goals as goal

pub returns-clause-spans : goal.returns-clause-spans
returns-clause-spans c ss = spans_of-sides_of ss

pub returns-clause-sides : goal.returns-clause-sides
returns-clause-sides c ss spans = sides-of_spans ss spans

pub returns-clause-ends : goal.returns-clause-ends
returns-clause-ends c sides i bit low within = end_in_row sides i bit low within
