use Rattle.rounded_iter.specs.Rising.{IsBelow}
use Rattle.rounded_iter.proofs.table.Table.climb_noted.Given as goal

abbrev pub ghost-try_few : goal.ghost-try_few
ghost-try_few g a = g.run

abbrev pub ghost-climb : goal.ghost-climb
ghost-climb g a = g.run

-- what was raised lies at or below each bound that the first vector does
abbrev pub invariant-loop-few : goal.invariant-loop-few
invariant-loop-few g l = IsBelow l.self.rule l.self.case g.run l.lane
