use Rattle.plift_top.proofs.notes.write_note.Goals as goal

pub returns-in-ReadFault : goal.returns-in-ReadFault
returns-in-ReadFault g c = rw c.in-ReadFault.is c.write_all-in-ReadFault.ensures.wrote

pub returns-in-NotChain : goal.returns-in-NotChain
returns-in-NotChain g c = rw c.in-NotChain.is c.write_all-in-NotChain.ensures.wrote

pub returns-in-TooWide : goal.returns-in-TooWide
returns-in-TooWide g c = rw c.in-TooWide.is c.write_all-in-TooWide.ensures.wrote
