use Rattle.float_guess.specs.Part.{KeepsOthers}
use Rattle.lower_cert.proofs.raise.raise_pass.Given as goal

abbrev pub ghost-raise_turn : goal.ghost-raise_turn
ghost-raise_turn g a = g.spans

-- all else is as it was
abbrev pub invariant-loop-position : goal.invariant-loop-position
invariant-loop-position g l = KeepsOthers l.rows.case l.rows.links l.fn.part.low l.fn.part.high l.initial.lane l.lane
