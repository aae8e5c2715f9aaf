use Rattle.cert_text.proofs.ReportLaws.{heads_back, heads_reported}
use Rattle.cert_text.proofs.laws.heads_are_read.Goals as goal

pub returns-clause-back : goal.returns-clause-back
returns-clause-back c = heads_back

pub returns-clause-reported : goal.returns-clause-reported
returns-clause-reported c = heads_reported
