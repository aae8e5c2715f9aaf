use Rattle.lower_cert.proofs.raise.raise_part.Given as goal

abbrev pub ghost-approach : goal.ghost-approach
ghost-approach g a = g.spans

abbrev pub ghost-raise_rest : goal.ghost-raise_rest
ghost-raise_rest g a = g.spans

abbrev pub ghost-is_closed_part : goal.ghost-is_closed_part
ghost-is_closed_part g a = g.spans
