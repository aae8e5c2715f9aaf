use Rattle.lower_cert.specs.Beginning.{IsNotedPart}
use Rattle.lower_cert.proofs.part.note.Given as goal

-- the positions so far are noted
abbrev pub invariant-loop-position : goal.invariant-loop-position
invariant-loop-position l = IsNotedPart l.rows.case l.rows.links l.lane l.noted l.fn.part.low l.position
