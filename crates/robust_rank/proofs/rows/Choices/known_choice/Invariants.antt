use Rattle.std.proofs.Common.{ℕ, ◌<◌}
use Rattle.corner_lift.specs.Certificate.{mark}
use Rattle.robust_rank.specs.Staging.{IsLeading}
use Rattle.robust_rank.proofs.rows.Choices.known_choice.Given as goal

abbrev pub ghost-is_leading : goal.ghost-is_leading
ghost-is_leading g a = g.spans

-- the choices before this one don't lead
abbrev pub invariant-loop-choice : goal.invariant-loop-choice
invariant-loop-choice g l = (b : ℕ) → b < l.choice → IsLeading l.self.rows.case.now g.spans l.self.allowed.now (mark l.ranks) l.below l.s b → ⊥
