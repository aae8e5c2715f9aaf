use Rattle.std.proofs.Common.{pos, ◌^◌, ◌≤ℤ◌}
use Rattle.lower_cert.proofs.raise.raised.Given as goal

abbrev pub ghost-raised_for : goal.ghost-raised_for
ghost-raised_for g a = g.spans

abbrev pub invariant-loop-a : goal.invariant-loop-a
invariant-loop-a g l = (pos 0 ≤ℤ l.number) × (l.number ≤ℤ pos (2 ^ l.rows.case.w))
