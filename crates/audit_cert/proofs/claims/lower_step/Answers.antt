use Rattle.std.proofs.Common.{refl}
use Rattle.audit_cert.proofs.claims.lower_step.Goals as goal

pub returns : goal.returns
returns c = rw c.last_high.ensures refl
