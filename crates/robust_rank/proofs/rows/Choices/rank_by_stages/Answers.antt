use Rattle.robust_rank.proofs.Completing.{begin, small_rank, ranks_of_stages}
use Rattle.robust_rank.proofs.rows.Choices.rank_by_stages.Goals as goal

pub loop-from-init : goal.loop-from-init
loop-from-init g c = begin c.args.self.now.rows.case.now g.spans c.args.self.now.allowed.now c.start-to.new.ranks c.start-to.new.queue c.start-to.result c.w.ensures.case c.requires.0.table.inside c.start-to.ensures

pub returns : goal.returns
returns g c =
    let done = c.loop-from.invariant in
    let small = small_rank c.args.self.now.rows.case.now g.spans c.args.self.now.allowed.now c.loop-from.ranks c.loop-from.queue c.loop-from.rank c.loop-from.from c.loop-from.to c.w.ensures.case done in
    ranks_of_stages c.args.self.now.rows.case.now g.spans c.args.self.now.allowed.now c.loop-from.ranks c.loop-from.queue c.loop-from.rank c.loop-from.from c.loop-from.to c.w.ensures.case c.requires.0.table.inside c.rows_at_corners.ensures.rise small c.loop-from-test.false done
