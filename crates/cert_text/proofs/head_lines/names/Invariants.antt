use Rattle.std.proofs.Common.{length, map}
use Rattle.cert_text.specs.Lines.{name_of}
use Rattle.line_text.specs.Shown.{Goes}
use Rattle.cert_text.proofs.head_lines.names.Given as goal

abbrev pub invariant-loop-rest : goal.invariant-loop-rest
invariant-loop-rest l = Goes name_of l.fn.words (map (λ w. w.now) l.names.items) l.rest

abbrev pub decreases-loop-rest : goal.decreases-loop-rest
decreases-loop-rest l = length l.rest
