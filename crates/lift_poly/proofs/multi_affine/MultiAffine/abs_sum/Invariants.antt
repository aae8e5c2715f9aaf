use Rattle.std.proofs.Common.{◌≡◌, take}
use Rattle.lift_poly.specs.Arithmetic.{abs_sum}
use Rattle.lift_poly.proofs.multi_affine.MultiAffine.abs_sum.Given as goal

abbrev pub invariant-loop-term : goal.invariant-loop-term
invariant-loop-term l = l.sum ≡ abs_sum (take l.term-index l.term-items)
