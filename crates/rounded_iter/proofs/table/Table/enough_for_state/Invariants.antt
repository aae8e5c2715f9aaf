use Rattle.rounded_iter.specs.Rising.{IsSolvedBy, unrewarded}
use Rattle.rounded_iter.proofs.table.Table.enough_for_state.Given as goal

abbrev pub ghost-enough : goal.ghost-enough
ghost-enough g a = g.spans

-- the choices so far were tried
abbrev pub invariant-loop-a : goal.invariant-loop-a
invariant-loop-a g l = IsSolvedBy (unrewarded l.self.rule) l.self.case g.spans l.lane l.s l.a l.number
