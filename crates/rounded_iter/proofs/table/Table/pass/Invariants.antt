use Rattle.rounded_iter.specs.Watching.{IsPassed}
use Rattle.rounded_iter.proofs.table.Table.pass.Given as goal

abbrev pub ghost-turn : goal.ghost-turn
ghost-turn g a = g.run

-- the positions so far were passed
abbrev pub invariant-loop-position : goal.invariant-loop-position
invariant-loop-position g l = IsPassed l.self g.run l.initial.lane l.lane l.work l.low l.position l.high l.rose
