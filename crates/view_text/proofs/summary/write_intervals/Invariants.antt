use Rattle.std.proofs.Common.{◌-◌, length}
use Rattle.lift_base.specs.Laws.{WroteUpTo}
use Rattle.view_text.specs.Summary.{interval_texts_from}
use Rattle.view_text.proofs.summary.write_intervals.Given as goal

abbrev pub invariant-loop-parameter : goal.invariant-loop-parameter
invariant-loop-parameter g l =
    WroteUpTo g.K.Sink.taken g.K.Sink.faults l.fn.out l.out (interval_texts_from l.head l.part 0 (length l.head.asked.model.names)) (interval_texts_from l.head l.part l.parameter (l.parameter-end - l.parameter))
