use Rattle.std.proofs.Common.{◌<◌, ℕ, get_or, unsigned_abs}
use Rattle.lift_poly.specs.Polynomial.{Term}
use Rattle.lift_model.specs.Valid.{coefficient_limit}
use Rattle.lift_lump.proofs.small.is_small.Given as goal

abbrev pub invariant-loop-index : goal.invariant-loop-index
invariant-loop-index l = (k : ℕ) (d : Term) → k < l.index → unsigned_abs (get_or l.poly k d).1 < coefficient_limit
