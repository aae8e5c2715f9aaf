use Rattle.cert_text.proofs.ReportLaws.{one_report}
use Rattle.cert_text.proofs.laws.texts_tell_one_report.Goals as goal

pub returns : goal.returns
returns c = one_report
