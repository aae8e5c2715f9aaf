use Rattle.std.proofs.Common.{◌<◌, length, [], arith}
use Rattle.cert_text.specs.Report.{state_lines}
use Rattle.cert_text.proofs.Lines.{numbered_next}
use Rattle.cert_text.proofs.model.write_rows.Goals as goal

pub returns-in_err-write_state_rows : goal.returns-in_err-write_state_rows
returns-in_err-write_state_rows g c =
    let inside : c.loop-s.s < length c.args.model.now.states = omega arith in
    c.writes_in_turn.ensures.stops _ _ _ _ _ _ _ _ _ c.from_residual.ensures.0 c.loop-s.invariant (numbered_next state_lines _ _ _ [] inside) c.in_err-write_state_rows.ensures

pub loop-s-preserved : goal.loop-s-preserved
loop-s-preserved g c =
    let inside : c.loop-s.s < length c.args.model.now.states = omega arith in
    c.writes_in_turn.ensures.next _ _ _ _ _ _ _ c.loop-s.invariant (numbered_next state_lines _ _ _ [] inside) c.in_ok-write_state_rows.ensures
