use Rattle.rounded_iter.specs.Rising.{IsSolvedBy}
use Rattle.rounded_iter.proofs.table.Table.rewarded_choices.Given as goal

abbrev pub ghost-rewarded : goal.ghost-rewarded
ghost-rewarded g a = g.spans

-- the choices so far were tried
abbrev pub invariant-loop-a : goal.invariant-loop-a
invariant-loop-a g l = IsSolvedBy l.self.rule l.self.case g.spans l.lane l.s l.a l.number
