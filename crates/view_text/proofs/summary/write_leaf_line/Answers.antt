use Rattle.view_text.proofs.summary.write_leaf_line.Goals as goal

pub returns-in-Some : goal.returns-in-Some
returns-in-Some g c = rw c.in-Some.is c.write_leaf.ensures
