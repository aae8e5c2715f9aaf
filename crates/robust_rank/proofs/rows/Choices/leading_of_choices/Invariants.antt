use Rattle.std.proofs.Common.{ℕ, ◌<◌}
use Rattle.corner_lift.specs.Certificate.{mark}
use Rattle.robust_rank.specs.Staging.{IsLeading}
use Rattle.robust_rank.proofs.rows.Choices.leading_of_choices.Given as goal

abbrev pub ghost-is_leading : goal.ghost-is_leading
ghost-is_leading g a = g.spans

-- the choices before this one don't lead
abbrev pub invariant-loop-a : goal.invariant-loop-a
invariant-loop-a g l = (b : ℕ) → b < l.a → IsLeading l.self.rows.case.now g.spans l.self.allowed.now (mark l.ranks) l.below l.s b → ⊥
