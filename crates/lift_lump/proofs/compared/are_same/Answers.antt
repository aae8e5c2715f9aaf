use Rattle.std.proofs.Common.{arith}
use Rattle.std.proofs.lemmas.List.{same_lists}
use Rattle.lift_lump.proofs.compared.are_same.Goals as goal

pub returns-clause-same : goal.returns-clause-same
returns-clause-same c = λ _. same_lists c.args.left.now c.args.right.now c.if-left-right.false (λ k d lt. c.loop-i.invariant k d (omega (arith, lt, c.loop-i-test.false)))
