use Rattle.lower_cert.specs.Exits.{StatesExitAtMost}
use Rattle.lower_cert.proofs.exit.best_exit.Given as goal

abbrev pub ghost-exit_of_state : goal.ghost-exit_of_state
ghost-exit_of_state g a = g.spans

-- the states so far hold no more
abbrev pub invariant-loop-s : goal.invariant-loop-s
invariant-loop-s g l = StatesExitAtMost l.rows.case g.spans l.lane l.marks l.level l.s l.most
