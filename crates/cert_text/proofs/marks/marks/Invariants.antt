use Rattle.std.proofs.Common.{◌≡◌, length}
use Rattle.cert_text.specs.Left.{marks_by, marks_left}
use Rattle.cert_text.proofs.marks.marks.Given as goal

-- what is left, behind what was read, comes to what all comes to
abbrev pub invariant-loop-rest : goal.invariant-loop-rest
invariant-loop-rest l = marks_left l.ends l.marks.items l.fit l.rest ≡ marks_by l.ends l.fn.words

abbrev pub decreases-loop-rest : goal.decreases-loop-rest
decreases-loop-rest l = length l.rest
