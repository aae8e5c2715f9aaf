use Rattle.std.proofs.Common.{refl, arith, below_more}
use Rattle.lower_cert.proofs.raise.is_closed_state.Goals as goal

pub loop-a-preserved : goal.loop-a-preserved
loop-a-preserved g c = below_more _ _ c.loop-a.invariant (c.if-not-is_closed_choice.ensures refl)

pub returns : goal.returns
returns g c = λ e a lt. c.loop-a.invariant a (omega (arith, lt, c.loop-a-test.false, c.choice_count-a-end.ensures))
