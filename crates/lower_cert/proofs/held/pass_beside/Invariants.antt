use Rattle.float_guess.specs.Part.{KeepsOthers}
use Rattle.lower_cert.specs.Lowering.{IsHighUnder}
use Rattle.lower_cert.proofs.held.pass_beside.Given as goal

abbrev pub ghost-turn : goal.ghost-turn
ghost-turn g a = g.run

abbrev pub invariant-loop-position : goal.invariant-loop-position
invariant-loop-position g l = record {
  high : IsHighUnder l.rows.case g.run l.lane;
  kept : KeepsOthers l.rows.case l.rows.links l.fn.held.part.low l.fn.held.part.high l.initial.lane l.lane;
}
