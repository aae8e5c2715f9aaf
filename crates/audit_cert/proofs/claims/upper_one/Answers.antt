use Rattle.std.proofs.Common.{refl}
use Rattle.audit_cert.proofs.claims.upper_one.Goals as goal

pub returns : goal.returns
returns c = rw c.low.ensures refl
