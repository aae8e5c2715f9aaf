use Rattle.std.proofs.Common.{◌≡◌, ℕ, ◌+◌, ◌*◌, ◌<◌, pos, ◌+ℤ◌, drop, slice_index_or}
use Rattle.lift_poly.specs.Arithmetic.{coefficient}
use Rattle.lift_rows.proofs.sums.add_terms.Given as goal

-- each sum, with the terms that are left, is the one at first with all terms
abbrev pub invariant-loop-i : goal.invariant-loop-i
invariant-loop-i l = (k : ℕ) → k < 256 → slice_index_or l.sums k (pos 0) +ℤ coefficient (l.block * 256 + k) (drop l.i l.poly) ≡ slice_index_or l.initial.sums k (pos 0) +ℤ coefficient (l.block * 256 + k) l.poly
