use Rattle.std.proofs.Common.{arith}
use Rattle.lower_cert.proofs.descent.Descent.held_of.Goals as goal

pub returns-clause-room : goal.returns-clause-room
returns-clause-room c = omega (arith, c.len.ensures, c.if-len-gt-HELD_STATES.false)
