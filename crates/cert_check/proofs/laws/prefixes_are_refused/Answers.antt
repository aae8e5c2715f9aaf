use Rattle.cert_check.proofs.Following.{prefixes_refused}
use Rattle.cert_check.proofs.laws.prefixes_are_refused.Goals as goal

pub returns : goal.returns
returns c = prefixes_refused c.heads_are_read.ensures.back c.heads_are_read.ensures.reported c.nodes_are_read.ensures.back c.nodes_are_read.ensures.reported c.prefixes_are_truncated.ensures
