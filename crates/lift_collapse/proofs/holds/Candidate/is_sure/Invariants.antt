use Rattle.std.proofs.Common.{◌≡◌, ◌<◌, ℕ, All}
use Rattle.lift_model.specs.Model.{row_at}
use Rattle.lift_model.specs.Links.{position, targets_of}
use Rattle.lift_collapse.specs.Collapse.{place}
use Rattle.lift_collapse.proofs.holds.Candidate.is_sure.Given as goal

-- so it is with the choices so far
abbrev pub invariant-loop-a : goal.invariant-loop-a
invariant-loop-a l = (a : ℕ) → a < l.a
    → All (λ t. (place l.self.collapsed.now t ≡ place l.self.collapsed.now l.s)
    × (position l.self.links.now t < position l.self.links.now l.s)) (targets_of (row_at l.self.model.now l.s a))
