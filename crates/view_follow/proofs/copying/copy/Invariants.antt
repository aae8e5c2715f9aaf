use Rattle.std.proofs.Common.{◌≡◌, ◌≤◌, length}
use Rattle.lift_base.specs.Outside.{TakenHas}
use Rattle.view_follow.specs.Copied.{IsCopied}
use Rattle.view_follow.specs.Progress.{Passes}
use Rattle.view_follow.proofs.copying.copy.Given as goal

abbrev pub invariant-loop-reads : goal.invariant-loop-reads
invariant-loop-reads g l = record {
  copied : IsCopied (g.S.Source.left l.fn.source) (g.S.Source.left l.source) (g.K.Sink.taken l.fn.out) (g.K.Sink.taken l.out);
  long : l.reads ≤ length copied.0;
  read_well : g.S.Source.faults l.source ≡ g.S.Source.faults l.fn.source;
  written_well : g.K.Sink.faults l.out ≡ g.K.Sink.faults l.fn.out;
  reported : TakenHas (Passes g.E.Sink.taken g.E.Sink.faults l.fn.notes l.notes l.fn.progress l.progress) (g.S.Source.left l.fn.source) (g.S.Source.left l.source);
}
