use Rattle.cert_check.proofs.leaf.Asked.accepts.Given as goal

abbrev pub ghost-is_accepting : goal.ghost-is_accepting
ghost-is_accepting g a = g.spans
