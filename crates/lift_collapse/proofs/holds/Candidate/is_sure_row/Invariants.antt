use Rattle.std.proofs.Common.{◌≡◌, ◌<◌, ℕ, slice_index_or}
use Rattle.lift_model.specs.Links.{position}
use Rattle.lift_collapse.specs.Collapse.{place}
use Rattle.lift_collapse.proofs.holds.Candidate.is_sure_row.Given as goal

-- the targets so far have the state's place, and stand before it
abbrev pub invariant-loop-target : goal.invariant-loop-target
invariant-loop-target l = (i : ℕ) → i < l.target-index
    → let t = slice_index_or l.target-items i 0 in
    (place l.self.collapsed.now t ≡ place l.self.collapsed.now l.s)
    × (position l.self.links.now t < position l.self.links.now l.s)
