use Rattle.std.proofs.Common.{◌<◌, take}
use Rattle.lift_poly.specs.Polynomial.{weight}
use Rattle.lift_lump.specs.Search.{modulus, whole, IsCongruent}
use Rattle.lift_lump.proofs.marks.mark_of.Given as goal

abbrev pub invariant-loop-index : goal.invariant-loop-index
invariant-loop-index l = record {
  below : l.sum < modulus;
  same : IsCongruent l.sum (weight (whole l.point) (take l.index l.poly));
}
