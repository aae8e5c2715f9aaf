use Rattle.float_guess.specs.Part.{KeepsOthers}
use Rattle.lower_cert.proofs.raise.jump.Given as goal

-- all else is as it was
abbrev pub invariant-loop-position : goal.invariant-loop-position
invariant-loop-position l = KeepsOthers l.rows.case l.rows.links l.fn.part.low l.fn.part.high l.initial.lane l.lane
