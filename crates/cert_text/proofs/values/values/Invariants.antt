use Rattle.std.proofs.Common.{◌≡◌, [], true, length}
use Rattle.cert_text.specs.Left.{values_left}
use Rattle.cert_text.proofs.values.values.Given as goal

-- what is left, behind what was read, comes to what all comes to
abbrev pub invariant-loop-rest : goal.invariant-loop-rest
invariant-loop-rest l = values_left l.count l.u l.values.items l.fit l.rest ≡ values_left l.count l.u [] true l.fn.words

abbrev pub decreases-loop-rest : goal.decreases-loop-rest
decreases-loop-rest l = length l.rest
