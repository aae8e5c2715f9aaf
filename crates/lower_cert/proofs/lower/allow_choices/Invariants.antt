use Rattle.lower_cert.specs.Lowering.{AreFlaggedBefore}
use Rattle.lower_cert.proofs.lower.allow_choices.Given as goal

abbrev pub ghost-is_allowed : goal.ghost-is_allowed
ghost-is_allowed g a = g.spans

-- the rows before this one are told
abbrev pub invariant-loop-a : goal.invariant-loop-a
invariant-loop-a g l = AreFlaggedBefore l.rows.case g.spans l.lane l.allowed l.s l.a
