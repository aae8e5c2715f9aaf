use Rattle.rounded_iter.specs.Rising.{IsSolvedFor}
use Rattle.rounded_iter.proofs.table.Table.rewarded_corners.Given as goal

abbrev pub ghost-solve_rewarded_either : goal.ghost-solve_rewarded_either
ghost-solve_rewarded_either g a = g.spans

abbrev pub ghost-short_price : goal.ghost-short_price
ghost-short_price g a = g.spans

-- the corners so far were taken
abbrev pub invariant-loop-corner : goal.invariant-loop-corner
invariant-loop-corner g l = IsSolvedFor l.self.rule.ends l.self.rule.corner l.self.case g.spans l.lane l.s l.a l.corner l.number
