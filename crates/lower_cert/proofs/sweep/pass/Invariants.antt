use Rattle.float_guess.specs.Part.{KeepsOthers}
use Rattle.lower_cert.specs.Lowering.{IsLowered}
use Rattle.lower_cert.proofs.sweep.pass.Given as goal

abbrev pub ghost-turn : goal.ghost-turn
ghost-turn g a = g.run

abbrev pub invariant-loop-position : goal.invariant-loop-position
invariant-loop-position g l = record {
  lowered : IsLowered l.rows.case g.run l.initial.lane l.lane l.fell;
  kept : KeepsOthers l.rows.case l.rows.links l.fn.part.low l.fn.part.high l.initial.lane l.lane;
}
