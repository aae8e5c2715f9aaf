use Rattle.std.proofs.Common.{take}
use Rattle.lift_poly.specs.Arithmetic.{IsContent}
use Rattle.lift_poly.proofs.multi_affine.MultiAffine.content.Given as goal

abbrev pub invariant-loop-term : goal.invariant-loop-term
invariant-loop-term l = IsContent (take l.term-index l.term-items) l.divisor
