use Rattle.float_guess.specs.Part.{KeepsOthers}
use Rattle.lower_cert.proofs.raise.sweeps.Given as goal

abbrev pub ghost-sweep : goal.ghost-sweep
ghost-sweep g a = g.spans

-- all else is as it was
abbrev pub invariant-loop : goal.invariant-loop
invariant-loop g l = KeepsOthers l.rows.case l.rows.links l.fn.part.low l.fn.part.high l.initial.lane l.lane
