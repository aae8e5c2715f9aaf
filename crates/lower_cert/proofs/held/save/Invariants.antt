use Rattle.lower_cert.specs.Holding.{AreInRange, AreSaved}
use Rattle.lower_cert.proofs.held.save.Given as goal

-- the positions so far are kept
abbrev pub invariant-loop-position : goal.invariant-loop-position
invariant-loop-position l = record {
  range : AreInRange l.rows.case l.saved;
  saved : AreSaved l.rows.case l.rows.links l.lane l.fn.held.part.low l.position l.saved;
}
