use Rattle.std.proofs.Common.{drop}
use Rattle.lift_base.specs.Laws.{WroteUpTo}
use Rattle.view_text.specs.Axes.{cuts_from}
use Rattle.view_text.proofs.axes.write_cuts.Given as goal

abbrev pub invariant-loop-line : goal.invariant-loop-line
invariant-loop-line g l = WroteUpTo g.K.Sink.taken g.K.Sink.faults l.fn.out l.out (cuts_from l.head 0 l.cut-items) (cuts_from l.head l.line (drop l.line l.cut-items))
