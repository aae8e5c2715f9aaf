use Rattle.float_guess.specs.Part.{KeepsOthers}
use Rattle.lower_cert.specs.Lowering.{IsHighUnder}
use Rattle.lower_cert.proofs.descent.Descent.fall_beside.Given as goal

abbrev pub ghost-pass_beside : goal.ghost-pass_beside
ghost-pass_beside g a = g.run

abbrev pub ghost-turn : goal.ghost-turn
ghost-turn g a = g.run

abbrev pub invariant-loop : goal.invariant-loop
invariant-loop g l = record {
  high : IsHighUnder l.self.rows.now.case g.run l.lane;
  kept : KeepsOthers l.self.rows.now.case l.self.rows.now.links l.fn.held.part.low l.fn.held.part.high l.initial.lane l.lane;
}
