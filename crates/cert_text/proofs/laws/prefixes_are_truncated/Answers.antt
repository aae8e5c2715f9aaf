use Rattle.cert_text.proofs.ReportLaws.{prefixes_truncated}
use Rattle.cert_text.proofs.laws.prefixes_are_truncated.Goals as goal

pub returns : goal.returns
returns c = prefixes_truncated
