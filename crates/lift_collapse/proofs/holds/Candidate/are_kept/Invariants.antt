use Rattle.std.proofs.Common.{◌≡◌, ◌<◌, ℕ, length, slice_index_or}
use Rattle.lift_collapse.specs.Collapse.{place}
use Rattle.lift_collapse.proofs.holds.Candidate.are_kept.Given as goal

-- the states that are kept so far are states, and have these places
abbrev pub invariant-loop-i : goal.invariant-loop-i
invariant-loop-i l = (k : ℕ) → k < l.i
    → (slice_index_or l.self.kept.now k 0 < length l.self.model.now.states)
    × (place l.self.collapsed.now (slice_index_or l.self.kept.now k 0) ≡ k)
