use Rattle.plift_top.proofs.Acts.{written}
use Rattle.plift_top.proofs.notes.end.Goals as goal

pub returns-in-Err-clause-noted : goal.returns-in-Err-clause-noted
returns-in-Err-clause-noted g c = rw c.in-Err.is (written g.E.Sink.taken g.E.Sink.faults _ _ c.write_note.result _ c.write_note.ensures)
