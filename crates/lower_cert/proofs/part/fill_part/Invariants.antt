use Rattle.float_guess.specs.Part.{KeepsOthers}
use Rattle.lower_cert.specs.Beginning.{AreAll}
use Rattle.lower_cert.proofs.part.fill_part.Given as goal

-- the positions so far are filled
abbrev pub invariant-loop-position : goal.invariant-loop-position
invariant-loop-position l = KeepsOthers l.rows.case l.rows.links l.fn.part.low l.fn.part.high l.initial.lane l.lane × AreAll l.rows.case l.rows.links l.lane l.number l.fn.part.low l.position
