use Rattle.std.proofs.Common.{Ok}
use Rattle.lift_base.specs.Outside.{Wrote}
use Rattle.lift_base.specs.declared.output.WriteFault.{WriteFault}
use Rattle.model_gen.specs.Ladder.{blocks, joined}
use Rattle.model_gen.proofs.write_blocks.Given as goal

abbrev pub invariant-loop-i : goal.invariant-loop-i
invariant-loop-i g l = Wrote {T = Unit {0}} {E = WriteFault} g.K.Sink.taken g.K.Sink.faults l.fn.out l.out (Ok tt) (joined (blocks l.n l.i))
