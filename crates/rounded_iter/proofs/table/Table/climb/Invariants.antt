use Rattle.rounded_iter.specs.Watching.{IsKept}
use Rattle.rounded_iter.proofs.table.Table.climb.Given as goal

abbrev pub ghost-visit_first : goal.ghost-visit_first
ghost-visit_first g a = g.run

abbrev pub ghost-settle_component : goal.ghost-settle_component
ghost-settle_component g a = g.run

abbrev pub ghost-settle : goal.ghost-settle
ghost-settle g a = g.run

-- the states that stand before the position were visited
abbrev pub invariant-loop-position : goal.invariant-loop-position
invariant-loop-position g l = IsKept l.self g.run l.lane l.work l.position
