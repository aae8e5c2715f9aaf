use Rattle.float_guess.specs.Part.{KeepsOthers}
use Rattle.lower_cert.proofs.Holding.{AreHighOn}
use Rattle.lower_cert.proofs.held.restore.Given as goal

-- the states at the positions so far are at or above every lower vector under the ceiling
abbrev pub invariant-loop-position : goal.invariant-loop-position
invariant-loop-position g l = record {
  kept : KeepsOthers l.rows.case l.rows.links l.fn.search.held.part.low l.fn.search.held.part.high l.initial.lane l.lane;
  above : AreHighOn l.rows.case l.rows.links g.run l.fn.search.held.part.low l.position l.lane;
}
