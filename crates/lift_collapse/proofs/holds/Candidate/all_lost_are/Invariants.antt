use Rattle.std.proofs.Common.{◌≡◌, ◌<◌, ℕ, true, false, slice_index_or}
use Rattle.lift_model.specs.Model.{is_goal}
use Rattle.lift_collapse.specs.Collapse.{AllTargets, place}
use Rattle.lift_collapse.proofs.holds.Candidate.all_lost_are.Given as goal

-- so it is with the states so far
abbrev pub invariant-loop-s : goal.invariant-loop-s
invariant-loop-s l = (s : ℕ) → s < l.s → slice_index_or l.self.lost.now s false ≡ true
    → (is_goal l.self.model.now s ≡ false)
    × AllTargets l.self.model.now (λ t. (slice_index_or l.self.lost.now t false ≡ true)
    × (place l.self.collapsed.now t ≡ place l.self.collapsed.now s)) s
