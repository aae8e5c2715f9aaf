use Rattle.std.proofs.Common.{refl}
use Rattle.audit_cert.proofs.claims.lower_all.Goals as goal

pub returns : goal.returns
returns c = rw c.high.ensures refl
