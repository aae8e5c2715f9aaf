use Rattle.std.proofs.Common.{false}
use Rattle.float_guess.specs.Part.{KeepsOthers}
use Rattle.lower_cert.specs.Lowering.{IsLowered}
use Rattle.lower_cert.proofs.descent.Descent.settle_within.Given as goal

abbrev pub ghost-pass : goal.ghost-pass
ghost-pass g a = g.run

abbrev pub invariant-loop : goal.invariant-loop
invariant-loop g l = record {
  lowered : IsLowered l.self.rows.now.case g.run l.initial.lane l.lane false;
  kept : KeepsOthers l.self.rows.now.case l.self.rows.now.links l.fn.part.low l.fn.part.high l.initial.lane l.lane;
}
