use Rattle.view_top.proofs.notes.end.Goals as goal

pub returns-in-Err-clause-noted : goal.returns-in-Err-clause-noted
returns-in-Err-clause-noted g c = rw c.in-Err.is (c.write_note.result, c.write_note.ensures)
