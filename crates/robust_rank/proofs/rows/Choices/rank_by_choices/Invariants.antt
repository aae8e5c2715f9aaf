use Rattle.std.proofs.Common.{◌-◌}
use Rattle.corner_lift.specs.Certificate.{unmarked, mark}
use Rattle.robust_rank.specs.InOrder.{HasNoLeadingTo}
use Rattle.robust_rank.proofs.rows.Choices.rank_by_choices.Given as goal

abbrev pub ghost-leading_of_choices : goal.ghost-leading_of_choices
ghost-leading_of_choices g a = g.spans

-- no choice leads below a rank up to here
abbrev pub invariant-loop-least : goal.invariant-loop-least
invariant-loop-least g l = HasNoLeadingTo l.self.rows.case.now g.spans l.self.allowed.now (mark l.ranks) l.from l.s

abbrev pub decreases-loop-least : goal.decreases-loop-least
decreases-loop-least g l = unmarked - l.from
