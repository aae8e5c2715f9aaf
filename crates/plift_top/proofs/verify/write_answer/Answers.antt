use Rattle.std.proofs.Common.{refl}
use Rattle.lift_range.specs.Range.{Between}
use Rattle.plift_top.proofs.PropertyTexts.{if_some}
use Rattle.plift_top.proofs.verify.write_answer.Goals as goal

pub answer_reach-requires-clause-from : goal.answer_reach-requires-clause-from
answer_reach-requires-clause-from g c v e = rw c.requires.precision (c.args.job.now.from_in_range v (rw c.in-Whole.is e))

pub answer_within-requires-clause-steps : goal.answer_within-requires-clause-steps
answer_within-requires-clause-steps g c = c.args.job.now.steps_in_range c.in-Within.steps (rw c.in-Within.is refl)

pub answer_property-requires-clause-from : goal.answer_property-requires-clause-from
answer_property-requires-clause-from g c =
    if_some (Between 1 c.args.tested.now.case.now.w) c.in-Property.from (λ v e. rw c.requires.precision (c.args.job.now.from_in_range v (rw c.in-Property.is e)))

pub answer_cost-requires-clause-can : goal.answer_cost-requires-clause-can
answer_cost-requires-clause-can g c = record {
  links = c.requires.links;
  costs = c.requires.costs (rw c.in-Cost.is refl);
  cap = c.args.job.now.cap_in_range c.in-Cost.limits.cap (rw c.in-Cost.is refl);
}

pub returns-in-Whole : goal.returns-in-Whole
returns-in-Whole g c a is paid = rw c.in-Whole.is (c.answer_reach.ensures a)

pub returns-in-Within : goal.returns-in-Within
returns-in-Within g c a is paid = rw c.in-Within.is (c.answer_within.ensures a)

pub returns-in-Lumped : goal.returns-in-Lumped
returns-in-Lumped g c a is paid = rw c.in-Lumped.is (c.write_lumped.ensures a)

pub returns-in-Property : goal.returns-in-Property
returns-in-Property g c a is paid = rw c.in-Property.is (c.answer_property.ensures a is)

pub returns-in-Cost : goal.returns-in-Cost
returns-in-Cost g c a is paid = rw c.in-Cost.is (c.answer_cost.ensures a is paid)
