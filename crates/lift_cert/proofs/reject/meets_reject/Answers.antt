use Rattle.std.proofs.Common.{arith}
use Rattle.lift_grid.specs.Rectangle.{spans_of}
use Rattle.lift_cert.specs.RejectMiss.{IsHeldState}
use Rattle.lift_cert.proofs.Misses.{one_more}
use Rattle.lift_cert.proofs.RejectMisses.{answers_at_bound}
use Rattle.lift_cert.proofs.reject.meets_reject.Goals as goal

pub loop-state-preserved : goal.loop-state-preserved
loop-state-preserved c = one_more (IsHeldState c.args.case.now (spans_of c.args.sides.now) c.new-r.result) c.loop-state.state c.loop-state.invariant c.in_ok-test_state.ensures.miss

pub returns-clause-ok : goal.returns-clause-ok
returns-clause-ok c =
    let all = rw (c.states-state-end.ensures.value, c.model.ensures.value) at c.loop-state-test.false in
    rw (← c.new-r.ensures) (answers_at_bound c.rows_at_corners.ensures.parameters c.args.case.now (spans_of c.args.sides.now) c.requires.sides.within c.new-r.result c.test_limit.result c.args.bound c.model.ensures.case (rw c.new-r.ensures c.requires.form)
    (λ s lt. c.loop-state.invariant s (omega (arith, all))) c.test_limit.ensures.miss)
