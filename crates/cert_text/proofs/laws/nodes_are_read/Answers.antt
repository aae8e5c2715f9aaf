use Rattle.cert_text.proofs.ReportLaws.{nodes_back, nodes_reported}
use Rattle.cert_text.proofs.laws.nodes_are_read.Goals as goal

pub returns-clause-back : goal.returns-clause-back
returns-clause-back c = nodes_back

pub returns-clause-reported : goal.returns-clause-reported
returns-clause-reported c = nodes_reported
