use Rattle.std.proofs.Common.{length}
use Rattle.std.specs.List.{flat_map}
use Rattle.lift_base.specs.Laws.{WroteUpTo}
use Rattle.cert_text.specs.Migrated.{lines_of, second_line}
use Rattle.cert_text.proofs.migrate.write_lines.Given as goal

abbrev pub invariant-loop-rest : goal.invariant-loop-rest
invariant-loop-rest g l = WroteUpTo g.K.Sink.taken g.K.Sink.faults l.fn.out l.out (flat_map (second_line l.precision) (lines_of l.text)) (flat_map (second_line l.precision) (lines_of l.rest))

abbrev pub decreases-loop-rest : goal.decreases-loop-rest
decreases-loop-rest g l = length l.rest
