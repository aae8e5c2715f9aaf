use Rattle.std.proofs.Common.{drop}
use Rattle.std.specs.List.{concat}
use Rattle.lift_base.specs.Laws.{WroteUpTo}
use Rattle.lift_model.specs.Model.{choices}
use Rattle.cert_text.specs.Report.{state_lines, row_lines, numbered}
use Rattle.cert_text.proofs.model.write_state_rows.Given as goal

abbrev pub invariant-loop-a : goal.invariant-loop-a
invariant-loop-a g l = WroteUpTo g.K.Sink.taken g.K.Sink.faults l.fn.out l.out (concat (state_lines l.s (choices l.model l.s))) (concat (numbered (row_lines l.s) l.a (drop l.a (choices l.model l.s))))
