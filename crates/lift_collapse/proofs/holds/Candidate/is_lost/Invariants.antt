use Rattle.std.proofs.Common.{◌≡◌, ◌<◌, ℕ, true, false, All, slice_index_or}
use Rattle.lift_model.specs.Model.{row_at}
use Rattle.lift_model.specs.Links.{targets_of}
use Rattle.lift_collapse.specs.Collapse.{place}
use Rattle.lift_collapse.proofs.holds.Candidate.is_lost.Given as goal

-- so it is with the choices so far
abbrev pub invariant-loop-a : goal.invariant-loop-a
invariant-loop-a l = (a : ℕ) → a < l.a
    → All (λ t. (slice_index_or l.self.lost.now t false ≡ true)
    × (place l.self.collapsed.now t ≡ place l.self.collapsed.now l.s)) (targets_of (row_at l.self.model.now l.s a))
