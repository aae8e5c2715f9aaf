use Rattle.plift_top.proofs.property.QuestionAsking.write_nodes.Goals as goal

pub write_tree-requires : goal.write_tree-requires
write_tree-requires g c = record { links = c.requires.can.0; made = c.requires.made; from = c.requires.can.1 }

pub returns : goal.returns
returns g c = c.write_tree.ensures.wrote
