use Rattle.std.proofs.Common.{◌≡◌, ◌<◌, ℕ, true, false, slice_index_or}
use Rattle.lift_collapse.specs.Collapse.{place}
use Rattle.lift_collapse.proofs.holds.Candidate.is_lost_row.Given as goal

-- the targets so far are lost, and have the state's place
abbrev pub invariant-loop-target : goal.invariant-loop-target
invariant-loop-target l = (i : ℕ) → i < l.target-index
    → let t = slice_index_or l.target-items i 0 in
    (slice_index_or l.self.lost.now t false ≡ true) × (place l.self.collapsed.now t ≡ place l.self.collapsed.now l.s)
