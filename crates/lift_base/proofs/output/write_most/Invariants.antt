use Rattle.std.proofs.Common.{◌≡◌, [], length}
use Rattle.lift_base.specs.Laws.{WroteUpTo}
use Rattle.lift_base.proofs.output.write_most.Given as goal

abbrev pub invariant-loop-rest : goal.invariant-loop-rest
invariant-loop-rest g l = record {
  wrote : WroteUpTo g.K.Sink.taken g.K.Sink.faults l.fn.out l.out l.fn.piece l.rest;
  same : g.K.Sink.reference l.out ≡ g.K.Sink.reference l.fn.out;
  no_call : l.fn.piece ≡ [] → l.out ≡ l.fn.out;
}

abbrev pub decreases-loop-rest : goal.decreases-loop-rest
decreases-loop-rest g l = length l.rest
