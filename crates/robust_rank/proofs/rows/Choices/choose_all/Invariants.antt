use Rattle.std.proofs.Common.{ℕ, ◌<◌}
use Rattle.corner_lift.specs.Certificate.{mark}
use Rattle.robust_rank.specs.Staging.{IsChoiceOf}
use Rattle.robust_rank.proofs.rows.Choices.choose_all.Given as goal

abbrev pub ghost-choice_of : goal.ghost-choice_of
ghost-choice_of g a = g.spans

-- the states before this one have their choices
abbrev pub invariant-loop-s : goal.invariant-loop-s
invariant-loop-s g l = (t : ℕ) → t < l.s → IsChoiceOf l.self.rows.case.now g.spans l.self.allowed.now l.ranks t (mark l.picks t)
