use Rattle.cert_check.proofs.leaf.Asked.rejects.Given as goal

abbrev pub ghost-is_rejecting : goal.ghost-is_rejecting
ghost-is_rejecting g a = g.spans
