use Rattle.cert_text.specs.Report.{entry_line}
use Rattle.cert_text.proofs.Lines.{flat_item}
use Rattle.cert_text.proofs.model.write_entries.Goals as goal

pub returns-in_err-write_entry : goal.returns-in_err-write_entry
returns-in_err-write_entry g c =
    c.writes_in_turn.ensures.stops _ _ _ _ _ _ _ _ _ c.from_residual.ensures.0 c.loop-entry.invariant (flat_item entry_line _ _ c.entry-item.result c.loop-entry-test.true c.entry-item.is) c.in_err-write_entry.ensures

pub loop-entry-preserved : goal.loop-entry-preserved
loop-entry-preserved g c =
    c.writes_in_turn.ensures.next _ _ _ _ _ _ _ c.loop-entry.invariant (flat_item entry_line _ _ c.entry-item.result c.loop-entry-test.true c.entry-item.is) c.in_ok-write_entry.ensures
