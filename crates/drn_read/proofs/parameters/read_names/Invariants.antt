use Rattle.std.proofs.Common.{length}
use Rattle.drn_read.specs.Shown.{left}
use Rattle.drn_read.proofs.Naming.{NamedSoFar}
use Rattle.drn_read.proofs.parameters.read_names.Given as goal

abbrev pub decreases-loop-word : goal.decreases-loop-word
decreases-loop-word l = length (left l.words)

abbrev pub invariant-loop-word : goal.invariant-loop-word
invariant-loop-word l = NamedSoFar l.fn.names l.names (left l.fn.words) (left l.words)
