use Rattle.cert_text.proofs.NodeTexts.{heads_cut}
use Rattle.cert_text.proofs.laws.heads_are_cut.Goals as goal

pub returns : goal.returns
returns c = heads_cut c.readings_end.ensures.within
