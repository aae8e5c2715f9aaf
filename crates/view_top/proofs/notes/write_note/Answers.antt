use Rattle.view_top.proofs.notes.write_note.Goals as goal

pub returns-in-ReadFault : goal.returns-in-ReadFault
returns-in-ReadFault g c = rw c.in-ReadFault.is c.write_all.ensures.wrote
