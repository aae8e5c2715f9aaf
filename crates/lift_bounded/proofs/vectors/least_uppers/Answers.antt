use Rattle.std.proofs.Common.{◌≡◌, ◌+◌, ◌<◌, ◌∙◌, true≢false, length, sym, subst, arith}
use Rattle.corner_lift.specs.Case.{IsCase}
use Rattle.corner_lift.specs.Certificate.{AreNumbers}
use Rattle.lift_bounded.specs.Steps.{nth, IsStart, IsLeastStep}
use Rattle.lift_bounded.specs.Stepping.{StepsRise}
use Rattle.lift_bounded.specs.Lanes.{HaveRisen}
use Rattle.lift_bounded.proofs.Filling.{risen_none, risen_more, shape_then, still_upper}
use Rattle.lift_bounded.proofs.vectors.least_uppers.Goals as goal

pub write-requires-clause-some : goal.write-requires-clause-some
write-requires-clause-some g c = omega (arith, c.requires.1.0.count)

pub write-requires-clause-size : goal.write-requires-clause-size
write-requires-clause-size g c =
    let start : IsStart c.args.rows.now.case c.write_start.new.lane = rw c.case.ensures at c.write_start.ensures in
    start.numbers.size ∙ sym (c.requires.1.0.sizes 0 (omega arith))

pub loop-n-init : goal.loop-n-init
loop-n-init g c =
    let k = c.args.rows.now.case in
    let start : IsStart k c.write_start.new.lane = rw c.case.ensures at c.write_start.ensures in
    let size = start.numbers.size ∙ sym (c.requires.1.0.sizes 0 (omega arith)) in
    record {
      risen = rw c.write.ensures (risen_none k g.spans c.args.h c.args.numbers.now.lanes c.write_start.new.lane c.requires.1.0 start);
      shape = rw c.write.ensures (c.lanes_have_shapes.ensures.writes c.args.numbers.now 0 c.write_start.new.lane size);
      size = start.numbers.size;
      still = λ e. absurd (true≢false e);
    }

pub next_up-rising-requires : goal.next_up-rising-requires
next_up-rising-requires g c =
    let k = c.args.rows.now.case in
    let risen = c.loop-n.invariant.risen in (
      record { lifted = c.requires.0; numbers = subst (AreNumbers k) (sym c.lane.ensures) risen.numbers },
      (
        subst (StepsRise k g.spans) (sym c.lane.ensures) risen.rises,
        (
          c.loop-n.invariant.size,
          λ e. (let still = c.loop-n.invariant.still e in (c.lane.ensures ∙ still.0, subst (λ y. IsLeastStep k g.spans y c.loop-n.work) (sym c.lane.ensures) still.1)),
        ),
      ),
    )

pub loop-n-preserved : goal.loop-n-preserved
loop-n-preserved g c =
    let k = c.args.rows.now.case in
    let p = c.loop-n.numbers in
    let z = c.next_up-rising.new.work in
    let risen = c.loop-n.invariant.risen in
    let is : IsCase k = c.w.ensures.case in
    let lt : c.loop-n.n < c.args.h = omega (arith, c.loop-n-test.true, c.loop-n.auto.n-end) in
    let step : IsLeastStep k g.spans (nth p.lanes c.loop-n.n) z = subst (λ y. IsLeastStep k g.spans y z) c.lane.ensures c.next_up-rising.ensures.step in
    let size : length z ≡ length k.model.states = step.upper.numbers.size in
    let inside : c.loop-n.n + 1 < length p.lanes = omega (arith, lt, risen.has.count) in
    let same = size ∙ sym (risen.has.sizes (c.loop-n.n + 1) (omega (arith, lt))) in
    record {
      risen = rw c.write-in-loop-n.ensures (risen_more c.rows_at_corners.ensures.rise k g.spans c.args.h c.loop-n.n p.lanes z is c.requires.0.inside lt risen step);
      shape = rw c.write-in-loop-n.ensures (shape_then c.args.numbers.now p _ c.loop-n.invariant.shape (c.lanes_have_shapes.ensures.writes p (c.loop-n.n + 1) z same));
      size = size;
      still = λ e. rw c.write-in-loop-n.ensures (still_upper k g.spans p.lanes (c.loop-n.n + 1) (nth p.lanes c.loop-n.n) z inside (sym c.lane.ensures ∙ c.next_up-rising.ensures.same e) step);
    }

pub write-requires-in-loop-n-clause-some : goal.write-requires-in-loop-n-clause-some
write-requires-in-loop-n-clause-some g c = omega (arith, c.loop-n-test.true, c.loop-n.auto.n-end, c.loop-n.invariant.risen.has.count)

pub write-requires-in-loop-n-clause-size : goal.write-requires-in-loop-n-clause-size
write-requires-in-loop-n-clause-size g c =
    let lt : c.loop-n.n < c.args.h = omega (arith, c.loop-n-test.true, c.loop-n.auto.n-end) in
    c.next_up-rising.ensures.step.upper.numbers.size ∙ sym (c.loop-n.invariant.risen.has.sizes (c.loop-n.n + 1) (omega (arith, lt)))

pub returns-clause-least : goal.returns-clause-least
returns-clause-least g c =
    let k = c.args.rows.now.case in
    let is : IsCase k = c.w.ensures.case in
    let all : c.loop-n.n ≡ c.args.h = omega (arith, c.loop-n-test.false, c.loop-n.auto.n-end) in
    let risen = subst (λ n. HaveRisen k g.spans c.args.h n c.loop-n.numbers.lanes) all c.loop-n.invariant.risen in
    c.steps_make_certificates.ensures.least k g.spans c.args.h c.loop-n.numbers.lanes is c.requires.0.inside risen.has.count risen.start risen.steps
