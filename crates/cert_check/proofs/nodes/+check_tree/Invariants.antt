use Rattle.cert_check.proofs.nodes.+check_tree.Given as goal

abbrev pub decreases-check_tree : goal.decreases-check_tree
decreases-check_tree g l = l.levels
