use Rattle.robust_rank.specs.InOrder.{IsPassed}
use Rattle.robust_rank.proofs.rows.Choices.rank_in_order.Given as goal

abbrev pub ghost-give_rank : goal.ghost-give_rank
ghost-give_rank g a = g.spans

abbrev pub invariant-loop-position : goal.invariant-loop-position
invariant-loop-position g l = IsPassed l.self.rows.case.now l.self.rows.links.now g.spans l.self.allowed.now l.ranks l.position
