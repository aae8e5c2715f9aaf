use Rattle.std.proofs.Common.{◌≡◌, true, false, arith}
use Rattle.lift_grid.specs.Rectangle.{spans_of}
use Rattle.lift_cert.specs.Miss.{IsAcceptedRow}
use Rattle.lift_cert.proofs.Misses.{one_more}
use Rattle.lift_cert.proofs.accept.test_state.Goals as goal

pub loop-choice-preserved : goal.loop-choice-preserved
loop-choice-preserved c = one_more (IsAcceptedRow c.args.case.now (spans_of c.args.sides.now) c.args.x.now c.args.state) c.loop-choice.choice c.loop-choice.invariant c.in_ok-test_row.ensures.miss

pub returns-clause-miss : goal.returns-clause-miss
returns-clause-miss c =
    let inner = rw c.model-model.ensures.value at c.is_goal.ensures in
    let all = rw (c.choices-choice-end.ensures, c.model-model.ensures.value) at c.loop-choice-test.false in
    record {
      goal = λ is. let wrong : true ≡ false = cc in absurd (cc wrong);
      rows = λ is a lt. c.loop-choice.invariant a (omega (arith, all));
    }
