use Rattle.lower_cert.specs.Lowering.{HoldNoMore}
use Rattle.lower_cert.proofs.sweep.held_by_choices.Given as goal

abbrev pub ghost-held : goal.ghost-held
ghost-held g a = g.spans

-- the choices so far hold no more
abbrev pub invariant-loop-a : goal.invariant-loop-a
invariant-loop-a g l = HoldNoMore l.rows.case g.spans l.lane l.s l.a l.most
