use Rattle.std.proofs.Common.{drop}
use Rattle.std.specs.List.{flat_map}
use Rattle.lift_base.specs.Laws.{WroteUpTo}
use Rattle.cert_text.specs.Report.{entry_line}
use Rattle.cert_text.proofs.model.write_entries.Given as goal

abbrev pub invariant-loop-entry : goal.invariant-loop-entry
invariant-loop-entry g l = WroteUpTo g.K.Sink.taken g.K.Sink.faults l.fn.out l.out (flat_map entry_line l.entries) (flat_map entry_line (drop l.entry-index l.entries))
