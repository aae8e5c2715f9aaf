use Rattle.std.proofs.Common.{arith, below_more}
use Rattle.audit_cert.specs.Claim.{PassesRow}
use Rattle.audit_cert.specs.Held.{claim_of}
use Rattle.audit_cert.proofs.Saying.{refused, granted}
use Rattle.audit_cert.proofs.quick.is_each_row_passed.Goals as goal

pub returns-then-not-is_row_passed : goal.returns-then-not-is_row_passed
returns-then-not-is_row_passed g c =
    let there = rw c.choice_count-choice-end.ensures at c.loop-choice-test.true in
    refused c.is_row_passed.result c.is_row_passed.ensures c.if-not-is_row_passed.true (λ all. all c.loop-choice.choice there)

pub loop-choice-preserved : goal.loop-choice-preserved
loop-choice-preserved g c = below_more (PassesRow c.args.table.now.case g.spans (claim_of c.args.claim.now) c.args.state) c.loop-choice.choice
    c.loop-choice.invariant (c.is_row_passed.ensures.0 c.if-not-is_row_passed.false)

pub returns : goal.returns
returns g c =
    let all = rw c.choice_count-choice-end.ensures at c.loop-choice-test.false in
    granted (λ a lt. c.loop-choice.invariant a (omega (arith, lt, all)))
