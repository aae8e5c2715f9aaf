use Rattle.std.proofs.Common.{arith, below_more}
use Rattle.lift_grid.specs.Rectangle.{spans_of}
use Rattle.audit_cert.specs.Claim.{PassesState}
use Rattle.audit_cert.specs.Held.{claim_of}
use Rattle.audit_cert.proofs.Misses.{answers_miss, answers_limit}
use Rattle.audit_cert.proofs.whole.meets.Goals as goal

pub loop-state-preserved : goal.loop-state-preserved
loop-state-preserved c = below_more (PassesState c.args.case.now (spans_of c.args.sides.now) (claim_of c.args.claim.now)) c.loop-state.state c.loop-state.invariant c.in_ok-test_state.ensures.miss

pub returns-in_err-test_state-clause-ok : goal.returns-in_err-test_state-clause-ok
returns-in_err-test_state-clause-ok c =
    answers_miss c.args.case.now (spans_of c.args.sides.now) (claim_of c.args.claim.now) c.from_residual.result c.loop-state.state c.in_err-test_state.field-0.0
    c.from_residual.ensures.0 c.in_err-test_state.ensures.miss

pub returns-clause-ok : goal.returns-clause-ok
returns-clause-ok c =
    let all = rw (c.states-state-end.ensures.value, c.model.ensures.value) at c.loop-state-test.false in
    answers_limit c.args.case.now (spans_of c.args.sides.now) (claim_of c.args.claim.now) c.test_limit.result _
    (λ s lt. c.loop-state.invariant s (omega (arith, all))) c.test_limit.ensures.miss
