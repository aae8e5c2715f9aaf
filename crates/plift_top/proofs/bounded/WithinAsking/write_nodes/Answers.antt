use Rattle.plift_top.proofs.bounded.WithinAsking.write_nodes.Goals as goal

pub returns : goal.returns
returns g c = rw c.requires.made.1 at c.write_tree.ensures.wrote
