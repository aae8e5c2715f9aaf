use Rattle.std.proofs.Common.{arith}
use Rattle.lift_grid.specs.Rectangle.{spans_of}
use Rattle.lift_cert.specs.Miss.{IsAcceptedState}
use Rattle.lift_cert.proofs.Misses.{one_more, answers_at_state, answers_at_bound}
use Rattle.lift_cert.proofs.accept.meets_accept.Goals as goal

pub loop-state-preserved : goal.loop-state-preserved
loop-state-preserved c = one_more (IsAcceptedState c.args.case.now (spans_of c.args.sides.now) c.args.x.now) c.loop-state.state c.loop-state.invariant c.in_ok-test_state.ensures.miss

pub returns-in_err-test_state-clause-ok : goal.returns-in_err-test_state-clause-ok
returns-in_err-test_state-clause-ok c =
    answers_at_state c.rows_at_corners.ensures.parameters c.args.case.now (spans_of c.args.sides.now) c.requires.sides.within c.args.x.now c.from_residual.result c.args.bound c.loop-state.state c.in_err-test_state.field-0.0
    c.from_residual.ensures.0 c.loop-state.invariant c.in_err-test_state.ensures.miss

pub returns-clause-ok : goal.returns-clause-ok
returns-clause-ok c =
    let all = rw (c.states-state-end.ensures.value, c.model.ensures.value) at c.loop-state-test.false in
    answers_at_bound c.rows_at_corners.ensures.parameters c.args.case.now (spans_of c.args.sides.now) c.requires.sides.within c.args.x.now c.test_limit.result c.args.bound c.model.ensures.case c.requires.numbers
    (λ s lt. c.loop-state.invariant s (omega (arith, all))) c.test_limit.ensures.miss
