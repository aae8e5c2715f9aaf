use Rattle.std.proofs.Common.{◌≡◌, ◌-◌, ◌<◌, ◌≤◌, length, true, false, subst, arith, ⊎_elim}
use Rattle.lift_model.specs.Model.{choices}
use Rattle.corner_lift.specs.Certificate.{mark}
use Rattle.robust_rank.specs.Staging.{IsLeading}
use Rattle.robust_rank.proofs.Means.{in_or_past, one_more}
use Rattle.robust_rank.proofs.rows.Choices.known_choice.Goals as goal

pub loop-choice-preserved : goal.loop-choice-preserved
loop-choice-preserved g c = one_more (λ b. IsLeading c.args.self.now.rows.case.now g.spans c.args.self.now.allowed.now (mark c.args.ranks.now) c.args.below c.args.s b → ⊥) c.loop-choice.choice c.loop-choice.invariant (λ leading. let is = c.is_leading.ensures.1 leading in let isnt = c.if-is_leading.false in let wrong : true ≡ false = cc (is, isnt) in absurd (cc wrong))

pub returns-then-is_leading : goal.returns-then-is_leading
returns-then-is_leading g c = record {
  in_range = omega (arith, c.loop-choice-test.true, c.choice_count-last.ensures);
  holds = c.is_leading.ensures.0 c.if-is_leading.true;
  least = c.loop-choice.invariant;
}

pub returns : goal.returns
returns g c =
    let last = c.choice_count-last.result - 1 in
    let there = c.requires.1.1.1 in
    let same : there.0 ≡ last =
    ⊎_elim
    (λ (lt : there.0 < last). absurd (c.loop-choice.invariant there.0 (omega (arith, lt, c.loop-choice-test.false)) there.1.1))
    (λ (le : last ≤ there.0). omega (arith, le, there.1.0, c.choice_count-last.ensures))
    (in_or_past there.0 last) in
    record {
      in_range = subst (λ b. b < length (choices c.args.self.now.rows.case.now.model c.args.s)) same there.1.0;
      holds = subst (λ b. IsLeading c.args.self.now.rows.case.now g.spans c.args.self.now.allowed.now (mark c.args.ranks.now) c.args.below c.args.s b) same there.1.1;
      least = λ b lt. c.loop-choice.invariant b (omega (arith, lt, c.loop-choice-test.false));
    }
