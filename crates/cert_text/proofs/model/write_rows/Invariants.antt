use Rattle.std.proofs.Common.{drop}
use Rattle.std.specs.List.{concat}
use Rattle.lift_base.specs.Laws.{WroteUpTo}
use Rattle.cert_text.specs.Report.{rows_lines, state_lines, numbered}
use Rattle.cert_text.proofs.model.write_rows.Given as goal

abbrev pub invariant-loop-s : goal.invariant-loop-s
invariant-loop-s g l = WroteUpTo g.K.Sink.taken g.K.Sink.faults l.fn.out l.out (concat (rows_lines l.model.states)) (concat (numbered state_lines l.s (drop l.s l.model.states)))
