use Rattle.lower_cert.specs.Lowering.{AreFlaggedBefore}
use Rattle.lower_cert.proofs.lower.allow.Given as goal

abbrev pub ghost-allow_state : goal.ghost-allow_state
ghost-allow_state g a = g.spans

-- the rows of the states before this one are told
abbrev pub invariant-loop-s : goal.invariant-loop-s
invariant-loop-s g l = AreFlaggedBefore l.rows.case g.spans l.lane l.allowed l.s 0
