use Rattle.std.proofs.Common.{◌-◌, length}
use Rattle.lift_dual.specs.Ranking.{IsCompleteOfAll}
use Rattle.lift_dual.proofs.ranks.rank_all.Given as goal

abbrev pub ghost-add_all : goal.ghost-add_all
ghost-add_all g a = record { spans = g.spans; ranks = a.ranks.now; queue = a.queue.now; to = a.to }

abbrev pub invariant-loop-from : goal.invariant-loop-from
invariant-loop-from g l = IsCompleteOfAll l.rows.case g.spans l.ranks l.queue l.rank l.from l.to

abbrev pub decreases-loop-from : goal.decreases-loop-from
decreases-loop-from g l = length l.rows.case.model.states - l.from
