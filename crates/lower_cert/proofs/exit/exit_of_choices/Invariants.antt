use Rattle.lower_cert.specs.Exits.{ChoicesExitAtMost}
use Rattle.lower_cert.proofs.exit.exit_of_choices.Given as goal

abbrev pub ghost-exit_of_choice : goal.ghost-exit_of_choice
ghost-exit_of_choice g a = g.spans

-- the choices so far hold no more
abbrev pub invariant-loop-a : goal.invariant-loop-a
invariant-loop-a g l = ChoicesExitAtMost l.rows.case g.spans l.lane l.marks l.level l.s l.a l.most
