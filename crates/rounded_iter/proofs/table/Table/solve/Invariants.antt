use Rattle.rounded_iter.specs.Rising.{IsSolved}
use Rattle.rounded_iter.proofs.table.Table.solve.Given as goal

abbrev pub ghost-has_short_sums : goal.ghost-has_short_sums
ghost-has_short_sums g a = g.spans

abbrev pub ghost-solve_either : goal.ghost-solve_either
ghost-solve_either g a = g.spans

-- the corners so far were taken
abbrev pub invariant-loop-corner : goal.invariant-loop-corner
invariant-loop-corner g l = IsSolved l.self.rule.corner l.self.case g.spans l.lane l.s l.a l.corner l.number
