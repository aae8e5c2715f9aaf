use Rattle.std.proofs.Common.{◌<◌, length, [], arith}
use Rattle.lift_model.specs.Model.{choices}
use Rattle.cert_text.specs.Report.{row_lines}
use Rattle.cert_text.proofs.Lines.{numbered_next}
use Rattle.cert_text.proofs.model.write_state_rows.Goals as goal

pub returns-in_err-write_row : goal.returns-in_err-write_row
returns-in_err-write_row g c =
    let inside : c.loop-a.a < length (choices c.args.model.now c.args.s) = omega arith in
    c.writes_in_turn.ensures.stops _ _ _ _ _ _ _ _ _ c.from_residual.ensures.0 c.loop-a.invariant (numbered_next (row_lines c.args.s) _ _ _ [] inside) (rw c.row.ensures.value at c.in_err-write_row.ensures)

pub loop-a-preserved : goal.loop-a-preserved
loop-a-preserved g c =
    let inside : c.loop-a.a < length (choices c.args.model.now c.args.s) = omega arith in
    c.writes_in_turn.ensures.next _ _ _ _ _ _ _ c.loop-a.invariant (numbered_next (row_lines c.args.s) _ _ _ [] inside) (rw c.row.ensures.value at c.in_ok-write_row.ensures)
