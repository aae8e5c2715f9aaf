use Rattle.std.proofs.Common.{refl}
use Rattle.audit_cert.proofs.claims.upper_step.Goals as goal

pub returns : goal.returns
returns c = rw c.last_low.ensures refl
