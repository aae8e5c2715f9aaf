use Rattle.std.proofs.Common.{◌≡◌, ℕ, ◌+◌, ◌*◌, ◌<◌, ◌≤◌, pos, ◌+ℤ◌, drop, length, slice_index_or, unsigned_abs}
use Rattle.corner_lift.specs.Case.{row_coefficient}
use Rattle.lift_model.specs.Valid.{coefficient_limit}
use Rattle.lift_rows.proofs.sums.sums_in.Given as goal

-- each sum, with the entries that are left, is that of the row; an entry adds less than coefficient_limit
abbrev pub invariant-loop-entry : goal.invariant-loop-entry
invariant-loop-entry l = record {
  size : length l.sums ≡ 256;
  same : (i : ℕ) → i < 256 → slice_index_or l.sums i (pos 0) +ℤ row_coefficient (l.block * 256 + i) (drop l.entry-index l.entries) ≡ row_coefficient (l.block * 256 + i) l.entries;
  room : (i : ℕ) → i < 256 → unsigned_abs (slice_index_or l.sums i (pos 0)) ≤ l.entry-index * coefficient_limit;
}
