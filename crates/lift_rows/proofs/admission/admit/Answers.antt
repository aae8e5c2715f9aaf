use Rattle.std.proofs.Common.{◌≤◌, length, arith}
use Rattle.lift_grid.specs.Parts.{region_of}
use Rattle.corner_lift.specs.Case.{IsCase, IsAdmitted, case_of}
use Rattle.lift_rows.proofs.RowTests.{one_more, before_all, case_weights, case_sums}
use Rattle.lift_rows.proofs.admission.admit.Goals as goal
use Rattle.lift_rows.proofs.admission.admit.Goals.{After-loop-s}

is_case : (c : After-loop-s) → IsCase (case_of c.args.model.now (region_of (c.args.grid, c.args.root.now)) c.args.w)
is_case c =
    let past : length c.new-asked.result.model.states ≤ c.loop-s.s = rw c.new-asked.ensures (omega arith) in
    let all : IsAdmitted c.new-asked.result = before_all c.new-asked.result c.loop-s.s 0 past c.loop-s.invariant in
    record {
      asked = record { model = c.states-states.ensures.model; spans = c.sides.ensures.spans; grid = c.requires.grid; depth = c.requires.depth; precision = c.requires.precision };
      admitted = rw c.new-asked.ensures at all;
    }

pub new-requires : goal.new-requires
new-requires c = is_case c

pub returns-clause-weights : goal.returns-clause-weights
returns-clause-weights c = rw c.new.ensures (case_weights c.rows_inside.ensures.weights c.rows_inside.ensures.root _ (is_case (goal.at.returns-clause-weights c).After-loop-s))

pub returns-clause-sums : goal.returns-clause-sums
returns-clause-sums c = rw c.new.ensures (case_sums c.rows_inside.ensures.sums _ (is_case (goal.at.returns-clause-sums c).After-loop-s))

pub loop-a-preserved : goal.loop-a-preserved
loop-a-preserved c = one_more c.new-asked.result c.loop-s.s c.loop-a.a c.loop-a.invariant c.in_ok-test_row.ensures.fault
