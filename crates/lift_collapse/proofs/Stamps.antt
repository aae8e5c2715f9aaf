-- Rows of a collapsed model: targets that stand once.
use Rattle.std.proofs.Common.{◌≡◌, ◌≢◌, ◌<◌, ℕ, List, length, get_or}
use Rattle.lift_model.specs.declared.entry.Entry.{Entry}
use Rattle.corner_lift.specs.Corner.{no_entry}

-- the target of the entry at a place
abbrev pub target_at : List Entry → ℕ → ℕ
target_at row i = (get_or row i no_entry).target

-- the first entries of a row, so many: their targets have the stamp, and none stands twice
pub record AreStamped (row : List Entry) (seen : List ℕ) (stamp count : ℕ) : Type 0 where
  pub stamped : (i : ℕ) → i < count → (target_at row i < length seen) × (get_or seen (target_at row i) 0 ≡ stamp)
  pub apart : (i j : ℕ) → i < j → j < count → target_at row i ≢ target_at row j
