use Rattle.lift_dual.proofs.Ranking.{begin, stages_end, most_rank}
use Rattle.lift_dual.proofs.ranks.rank_all.Goals as goal

pub loop-from-init : goal.loop-from-init
loop-from-init g c = begin c.stages_of_all.ensures.start c.args.rows.now.case g.spans c.start-to.new.ranks c.start-to.new.queue c.start-to.result c.w.ensures.case c.requires.0.inside (rw c.case.ensures at c.start-to.ensures)

pub returns-clause-stages : goal.returns-clause-stages
returns-clause-stages g c = stages_end c.stages_of_all.ensures.end c.args.rows.now.case g.spans c.loop-from.ranks c.loop-from.queue c.loop-from.rank c.loop-from.from c.loop-from.to c.w.ensures.case c.requires.0.inside c.loop-from-test.false c.loop-from.invariant

pub returns-clause-most : goal.returns-clause-most
returns-clause-most g c = most_rank c.args.rows.now.case g.spans c.loop-from.ranks c.loop-from.queue c.loop-from.rank c.loop-from.from c.loop-from.to c.loop-from.invariant
