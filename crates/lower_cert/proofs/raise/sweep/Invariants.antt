use Rattle.float_guess.specs.Part.{KeepsOthers}
use Rattle.lower_cert.proofs.raise.sweep.Given as goal

abbrev pub ghost-move_at : goal.ghost-move_at
ghost-move_at g a = g.spans

-- all else is as it was
abbrev pub invariant-loop-position : goal.invariant-loop-position
invariant-loop-position g l = KeepsOthers l.rows.case l.rows.links l.fn.part.low l.fn.part.high l.initial.lane l.lane
