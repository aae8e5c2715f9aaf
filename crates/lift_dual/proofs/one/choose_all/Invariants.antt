use Rattle.std.proofs.Common.{ℕ, ◌<◌}
use Rattle.corner_lift.specs.Certificate.{mark}
use Rattle.lift_dual.specs.Choosing.{IsLowestChoice}
use Rattle.lift_dual.proofs.one.choose_all.Given as goal

abbrev pub ghost-lowest_choice : goal.ghost-lowest_choice
ghost-lowest_choice g a = g.spans

-- the states before this one have their choices
abbrev pub invariant-loop-s : goal.invariant-loop-s
invariant-loop-s g l = (t : ℕ) → t < l.s → IsLowestChoice l.rows.case g.spans l.lane t (mark l.picks t)
