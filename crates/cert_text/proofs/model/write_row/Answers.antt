use Rattle.cert_text.specs.Report.{entry_line}
use Rattle.cert_text.proofs.Lines.{concat-map}
use Rattle.cert_text.proofs.model.write_row.Goals as goal

pub returns-in_err-write_row_line : goal.returns-in_err-write_row_line
returns-in_err-write_row_line g c = c.writes_in_turn.ensures.stopped _ _ _ _ _ _ c.from_residual.ensures.0 (rw c.entries-entries.ensures at c.in_err-write_row_line.ensures)

pub returns : goal.returns
returns g c = rw (concat-map entry_line c.args.row.now) (c.writes_in_turn.ensures.both _ _ _ _ _ _ (rw c.entries-entries.ensures at c.in_ok-write_row_line.ensures) (rw c.entries-entries.ensures at c.write_entries.ensures))
