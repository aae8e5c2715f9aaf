use Rattle.lower_cert.specs.Beginning.{IsClosedPart}
use Rattle.lower_cert.proofs.raise.is_closed_part.Given as goal

abbrev pub ghost-is_closed_position : goal.ghost-is_closed_position
ghost-is_closed_position g a = g.spans

-- no choice lets a state so far rise
abbrev pub invariant-loop-position : goal.invariant-loop-position
invariant-loop-position g l = IsClosedPart l.rows.case l.rows.links g.spans l.lane l.fn.part.low l.position
