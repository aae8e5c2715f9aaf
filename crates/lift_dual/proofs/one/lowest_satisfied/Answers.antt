use Rattle.std.proofs.Common.{◌≡◌, ◌-◌, ◌<◌, ◌≤◌, length, true, false, subst, arith, ⊎_elim}
use Rattle.lift_model.specs.Model.{choices}
use Rattle.lift_dual.specs.Choosing.{IsSatisfied}
use Rattle.lift_dual.proofs.Inside.{in_or_past}
use Rattle.lift_dual.proofs.Choosing.{one_more}
use Rattle.lift_dual.proofs.one.lowest_satisfied.Goals as goal

pub loop-choice-preserved : goal.loop-choice-preserved
loop-choice-preserved g c = one_more (λ b. IsSatisfied c.args.rows.now.case g.spans c.args.lane.now c.args.s b → ⊥) c.loop-choice.choice c.loop-choice.invariant (λ satisfied. let is = c.is_satisfied.ensures.1 satisfied in let isnt = c.if-is_satisfied.false in let wrong : true ≡ false = cc (is, isnt) in absurd (cc wrong))

pub returns-then-is_satisfied : goal.returns-then-is_satisfied
returns-then-is_satisfied g c = record {
  in_range = omega (arith, c.loop-choice-test.true, c.choice_count-last.ensures);
  holds = c.is_satisfied.ensures.0 c.if-is_satisfied.true;
  least = c.loop-choice.invariant;
}

pub returns : goal.returns
returns g c =
    let last = c.choice_count-last.result - 1 in
    let there = c.requires.1.1.1 in
    let same : there.0 ≡ last =
    ⊎_elim
    (λ (lt : there.0 < last). absurd (c.loop-choice.invariant there.0 (omega (arith, lt, c.loop-choice-test.false)) there.1.1))
    (λ (le : last ≤ there.0). omega (arith, le, there.1.0, c.choice_count-last.ensures))
    (in_or_past there.0 last) in
    record {
      in_range = subst (λ b. b < length (choices c.args.rows.now.case.model c.args.s)) same there.1.0;
      holds = subst (λ b. IsSatisfied c.args.rows.now.case g.spans c.args.lane.now c.args.s b) same there.1.1;
      least = λ b lt. c.loop-choice.invariant b (omega (arith, lt, c.loop-choice-test.false));
    }
