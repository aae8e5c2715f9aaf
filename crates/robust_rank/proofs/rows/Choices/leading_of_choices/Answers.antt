use Rattle.std.proofs.Common.{◌≡◌, true, false, arith}
use Rattle.corner_lift.specs.Certificate.{mark}
use Rattle.robust_rank.specs.Staging.{IsLeading}
use Rattle.robust_rank.proofs.Means.{one_more}
use Rattle.robust_rank.proofs.rows.Choices.leading_of_choices.Goals as goal

pub returns-then-is_leading-clause-some : goal.returns-then-is_leading-clause-some
returns-then-is_leading-clause-some g c = record {
  in_range = omega (arith, c.loop-a-test.true, c.choice_count-a-end.ensures);
  holds = c.is_leading.ensures.0 c.if-is_leading.true;
  least = c.loop-a.invariant;
}

pub loop-a-preserved : goal.loop-a-preserved
loop-a-preserved g c = one_more (λ b. IsLeading c.args.self.now.rows.case.now g.spans c.args.self.now.allowed.now (mark c.args.ranks.now) c.args.below c.args.s b → ⊥) c.loop-a.a c.loop-a.invariant (λ leading. let is = c.is_leading.ensures.1 leading in let isnt = c.if-is_leading.false in let wrong : true ≡ false = cc (is, isnt) in absurd (cc wrong))

pub returns-clause-none : goal.returns-clause-none
returns-clause-none g c e a lt = c.loop-a.invariant a (omega (arith, lt, c.loop-a-test.false, c.choice_count-a-end.ensures))
