use Rattle.cert_text.proofs.ReportLaws.{reports_back, reports_reported}
use Rattle.cert_text.proofs.laws.reports_are_read.Goals as goal

pub returns-clause-back : goal.returns-clause-back
returns-clause-back c = reports_back

pub returns-clause-reported : goal.returns-clause-reported
returns-clause-reported c = reports_reported
