use Rattle.std.proofs.Common.{arith, below_more}
use Rattle.lift_grid.specs.Rectangle.{spans_of}
use Rattle.audit_cert.specs.Claim.{PassesRow}
use Rattle.audit_cert.specs.Held.{claim_of}
use Rattle.audit_cert.proofs.state.test_each_row.Goals as goal

pub test_row-requires-clause-at : goal.test_row-requires-clause-at
test_row-requires-clause-at c =
    let there = rw (c.choices-choice-end.ensures, c.model.ensures.value) at c.loop-choice-test.true in
    record {
      state = c.requires.inner.state;
      inner = c.requires.inner.inner;
      ranked = c.requires.inner.ranked;
      choice = there;
      tested = rw c.requires.each there;
      rows = λ b lt tested. c.loop-choice.invariant b lt;
    }

pub loop-choice-preserved : goal.loop-choice-preserved
loop-choice-preserved c = below_more (PassesRow c.args.case.now (spans_of c.args.sides.now) (claim_of c.args.claim.now) c.args.state) c.loop-choice.choice c.loop-choice.invariant c.in_ok-test_row.ensures.miss

pub returns-clause-miss : goal.returns-clause-miss
returns-clause-miss c =
    let all = rw (c.choices-choice-end.ensures, c.model.ensures.value) at c.loop-choice-test.false in
    λ a lt. c.loop-choice.invariant a (omega (arith, all))
