use Rattle.std.proofs.Common.{◌≡◌, drop, bit_or}
use Rattle.lift_poly.specs.Arithmetic.{support}
use Rattle.lift_poly.proofs.multi_affine.MultiAffine.support.Given as goal

abbrev pub invariant-loop-term : goal.invariant-loop-term
invariant-loop-term l = bit_or l.set (support (drop l.term-index l.term-items)) ≡ support l.term-items
