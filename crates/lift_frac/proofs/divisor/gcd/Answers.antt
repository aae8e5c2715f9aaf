use Rattle.lift_frac.proofs.Euclid.{step, end, is_gcd, small, positive}
use Rattle.lift_frac.proofs.divisor.gcd.Goals as goal

pub loop-b-preserved : goal.loop-b-preserved
loop-b-preserved c = step _ _ c.loop-b.a c.loop-b.b c.loop-b.invariant

pub returns-clause-value : goal.returns-clause-value
returns-clause-value c = is_gcd _ _ _ (end _ _ c.loop-b.a c.loop-b.b c.loop-b.invariant c.loop-b-test.false)

pub returns-clause-divides : goal.returns-clause-divides
returns-clause-divides c = end _ _ c.loop-b.a c.loop-b.b c.loop-b.invariant c.loop-b-test.false

pub returns-clause-positive : goal.returns-clause-positive
returns-clause-positive c = positive _ _ _ (end _ _ c.loop-b.a c.loop-b.b c.loop-b.invariant c.loop-b-test.false)

pub returns-clause-small : goal.returns-clause-small
returns-clause-small c = small _ _ _ (end _ _ c.loop-b.a c.loop-b.b c.loop-b.invariant c.loop-b-test.false)
