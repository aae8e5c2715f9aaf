use Rattle.std.proofs.Common.{length}
use Rattle.drn_read.specs.Shown.{left}
use Rattle.drn_read.proofs.WordLoops.{SoFar}
use Rattle.drn_read.proofs.labels.read_labels.Given as goal

abbrev pub decreases-loop-word : goal.decreases-loop-word
decreases-loop-word l = length (left l.words)

abbrev pub invariant-loop-word : goal.invariant-loop-word
invariant-loop-word l = SoFar l.goal (left l.fn.words) (left l.words) l.is_first l.labels
