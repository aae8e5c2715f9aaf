use Rattle.std.proofs.Common.{◌<◌, ℕ, false, length, slice_index_or}
use Rattle.lift_model.specs.Links.{position}
use Rattle.lift_collapse.specs.Collapse.{StandsFor, place}
use Rattle.lift_collapse.proofs.holds.Candidate.all_stand.Given as goal

-- so it is with the states so far
abbrev pub invariant-loop-s : goal.invariant-loop-s
invariant-loop-s l = (s : ℕ) → s < l.s
    → (place l.self.collapsed.now s < length l.self.kept.now)
    × StandsFor l.self.model.now l.self.collapsed.now (λ i. slice_index_or l.self.kept.now i 0)
    (λ t. slice_index_or l.self.lost.now t false) (position l.self.links.now) s
