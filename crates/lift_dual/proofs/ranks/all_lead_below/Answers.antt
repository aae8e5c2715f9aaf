use Rattle.std.proofs.Common.{arith}
use Rattle.std.proofs.lemmas.Bool.{both_ways}
use Rattle.corner_lift.specs.Certificate.{mark}
use Rattle.corner_lift.specs.Stages.{LeadsBelow}
use Rattle.lift_dual.proofs.Choosing.{one_more}
use Rattle.lift_dual.proofs.ranks.all_lead_below.Goals as goal

pub returns-then-not-leads_below-clause-some : goal.returns-then-not-leads_below-clause-some
returns-then-not-leads_below-clause-some g c e all = both_ways _ c.if-not-leads_below.true (c.leads_below.ensures.1 (all c.loop-a.a (omega (arith, c.loop-a-test.true, c.choice_count-a-end.ensures))))

pub loop-a-preserved : goal.loop-a-preserved
loop-a-preserved g c = one_more (λ b. LeadsBelow c.args.rows.now.case g.spans (mark c.args.ranks.now) c.args.below c.args.s b) c.loop-a.a c.loop-a.invariant (c.leads_below.ensures.0 c.if-not-leads_below.false)

pub returns-clause-all : goal.returns-clause-all
returns-clause-all g c e a lt = c.loop-a.invariant a (omega (arith, lt, c.loop-a-test.false, c.choice_count-a-end.ensures))
