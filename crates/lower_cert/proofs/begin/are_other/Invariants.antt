use Rattle.lower_cert.specs.Beginning.{AreOther}
use Rattle.lower_cert.proofs.begin.are_other.Given as goal

-- the states at the positions so far have others
abbrev pub invariant-loop-position : goal.invariant-loop-position
invariant-loop-position l = AreOther l.rows.case l.rows.links l.lane l.noted l.fn.part.low l.position
