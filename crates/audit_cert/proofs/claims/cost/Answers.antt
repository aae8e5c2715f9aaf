use Rattle.std.proofs.Common.{refl}
use Rattle.audit_cert.proofs.claims.cost.Goals as goal

pub returns : goal.returns
returns c = rw c.within.ensures refl
