use Rattle.std.proofs.Common.{◌≡◌, ◌+◌, ◌-◌, ◌<◌, sym, subst, arith}
use Rattle.lift_base.specs.Laws.{WroteUpTo}
use Rattle.lift_bounded.specs.Text.{for_steps, upper_text}
use Rattle.lift_bounded.proofs.Texts.{next_step}
use Rattle.lift_bounded.proofs.writers.write_uppers.Goals as goal

pub loop-n-init : goal.loop-n-init
loop-n-init g c =
    let all : c.args.h - 0 ≡ c.args.h = omega arith in
    subst (λ m. WroteUpTo g.K.Sink.taken g.K.Sink.faults c.args.out.now c.args.out.now (for_steps (upper_text c.args.numbers.now.lanes) 1 c.args.h) (for_steps (upper_text c.args.numbers.now.lanes) 1 m)) (sym all) (c.writes_in_turn.ensures.begins _ _)

pub returns-in_err-write_numbers : goal.returns-in_err-write_numbers
returns-in_err-write_numbers g c =
    let lt : c.loop-n.n < c.args.h = omega (arith, c.loop-n-test.true, c.loop-n.auto.n-end) in
    c.writes_in_turn.ensures.stops _ _ _ _ _ _ _ _ _ c.from_residual.ensures.0 c.loop-n.invariant (next_step (upper_text c.args.numbers.now.lanes) c.loop-n.n c.args.h lt) (rw c.lane.ensures at c.in_err-write_numbers.ensures)

pub loop-n-preserved : goal.loop-n-preserved
loop-n-preserved g c =
    let lt : c.loop-n.n < c.args.h = omega (arith, c.loop-n-test.true, c.loop-n.auto.n-end) in
    c.writes_in_turn.ensures.next _ _ _ _ _ _ _ c.loop-n.invariant (next_step (upper_text c.args.numbers.now.lanes) c.loop-n.n c.args.h lt) (rw c.lane.ensures at c.in_ok-write_numbers.ensures)

pub returns : goal.returns
returns g c =
    let none : c.args.h - c.loop-n.n ≡ 0 = omega (arith, c.loop-n-test.false, c.loop-n.auto.n-end) in
    c.writes_in_turn.ensures.ends _ _ _ (subst (λ m. WroteUpTo g.K.Sink.taken g.K.Sink.faults c.args.out.now c.loop-n.out (for_steps (upper_text c.args.numbers.now.lanes) 1 c.args.h) (for_steps (upper_text c.args.numbers.now.lanes) (c.loop-n.n + 1) m)) none c.loop-n.invariant)
