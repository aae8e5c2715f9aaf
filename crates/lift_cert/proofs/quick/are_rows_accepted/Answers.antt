use Rattle.std.proofs.Common.{◌≡◌, true, false, arith}
use Rattle.lift_cert.specs.Miss.{IsAcceptedRow}
use Rattle.lift_cert.proofs.Misses.{one_more}
use Rattle.lift_cert.proofs.QuickTests.{refused, granted}
use Rattle.lift_cert.proofs.quick.are_rows_accepted.Goals as goal

pub returns-then-not-is_row_accepted : goal.returns-then-not-is_row_accepted
returns-then-not-is_row_accepted g c =
    let there = rw c.choice_count-choice-end.ensures at c.loop-choice-test.true in
    refused c.is_row_accepted.result c.is_row_accepted.ensures c.if-not-is_row_accepted.true
    (λ accepted. accepted.rows c.requires.1.1.1 c.loop-choice.choice there)

pub loop-choice-preserved : goal.loop-choice-preserved
loop-choice-preserved g c = one_more (IsAcceptedRow c.args.table.now.case g.spans c.args.x.now c.args.state) c.loop-choice.choice
    c.loop-choice.invariant (c.is_row_accepted.ensures.0 c.if-not-is_row_accepted.false)

pub returns : goal.returns
returns g c =
    let inner = c.requires.1.1.1 in
    let all = rw c.choice_count-choice-end.ensures at c.loop-choice-test.false in
    granted (record {
      goal = λ is. let wrong : true ≡ false = cc (is, inner) in absurd (cc wrong);
      rows = λ is a lt. c.loop-choice.invariant a (omega (arith, lt, all));
    })
