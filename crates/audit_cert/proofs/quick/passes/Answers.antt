use Rattle.std.proofs.Common.{arith, below_more}
use Rattle.audit_cert.specs.Claim.{PassesState}
use Rattle.audit_cert.specs.Held.{claim_of}
use Rattle.audit_cert.proofs.Saying.{refused, in_place}
use Rattle.audit_cert.proofs.quick.passes.Goals as goal

pub returns-then-not-is_state_passed : goal.returns-then-not-is_state_passed
returns-then-not-is_state_passed g c =
    let there = rw (c.states-state-end.ensures.value, c.model-model.ensures.value) at c.loop-state-test.true in
    refused c.is_state_passed.result (rw c.new-table.ensures at c.is_state_passed.ensures) c.if-not-is_state_passed.true
    (λ passes. passes.states c.loop-state.state there)

pub loop-state-preserved : goal.loop-state-preserved
loop-state-preserved g c = below_more (PassesState c.args.case.now g.spans (claim_of c.args.claim.now)) c.loop-state.state c.loop-state.invariant
    ((rw c.new-table.ensures at c.is_state_passed.ensures).0 c.if-not-is_state_passed.false)

pub returns : goal.returns
returns g c =
    let all = rw (c.states-state-end.ensures.value, c.model-model.ensures.value) at c.loop-state-test.false in
    in_place c.is_limit_kept.result c.is_limit_kept.ensures
    (λ limit. record { states = λ s lt. c.loop-state.invariant s (omega (arith, lt, all)); limit = limit })
    (λ passes. passes.limit)
