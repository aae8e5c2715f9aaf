use Rattle.std.proofs.Common.{◌≡◌, ◌+◌, ◌<◌, ◌∙◌, true≢false, length, sym, subst, arith}
use Rattle.corner_lift.specs.Case.{IsCase}
use Rattle.corner_lift.specs.Certificate.{AreNumbers}
use Rattle.lift_bounded.specs.Steps.{nth, IsStart, IsGreatestStep}
use Rattle.lift_bounded.specs.Lanes.{HaveSunk}
use Rattle.lift_bounded.proofs.Filling.{sunk_none, sunk_more, shape_then, same_shape, still_lower}
use Rattle.lift_bounded.proofs.vectors.greatest_lowers.Goals as goal

pub write-requires-clause-some : goal.write-requires-clause-some
write-requires-clause-some g c = omega (arith, c.requires.1.0.count)

pub write-requires-clause-size : goal.write-requires-clause-size
write-requires-clause-size g c =
    let start : IsStart c.args.rows.now.case c.write_start.new.lane = rw c.case.ensures at c.write_start.ensures in
    start.numbers.size ∙ sym (c.requires.1.0.sizes 0 (omega arith))

pub loop-n-init : goal.loop-n-init
loop-n-init g c =
    let k = c.args.rows.now.case in
    let start : IsStart k c.write_start.new.lane = rw c.case.ensures at c.write_start.ensures in
    let size = start.numbers.size ∙ sym (c.requires.1.0.sizes 0 (omega arith)) in
    record {
      sunk = rw c.write.ensures (sunk_none k g.spans c.args.h c.args.numbers.now.lanes c.args.picks.now.lanes c.write_start.new.lane c.requires.1.0 c.requires.1.1.0 start);
      shape = rw c.write.ensures (c.lanes_have_shapes.ensures.writes c.args.numbers.now 0 c.write_start.new.lane size);
      marked = same_shape c.args.picks.now;
      size = start.numbers.size;
      count = c.requires.1.1.1.1;
      still = λ e. absurd (true≢false e);
    }

pub next_down-rising-requires : goal.next_down-rising-requires
next_down-rising-requires g c =
    let k = c.args.rows.now.case in (
      record { lifted = c.requires.0; numbers = subst (AreNumbers k) (sym c.lane.ensures) c.loop-n.invariant.sunk.numbers },
      (
        c.loop-n.invariant.size,
        (
          c.loop-n.invariant.count,
          λ e. (let still = c.loop-n.invariant.still e in (c.lane.ensures ∙ still.0, subst (λ y. IsGreatestStep k g.spans y c.loop-n.work c.loop-n.marks) (sym c.lane.ensures) still.1)),
        ),
      ),
    )

pub loop-n-preserved : goal.loop-n-preserved
loop-n-preserved g c =
    let k = c.args.rows.now.case in
    let p = c.loop-n.numbers in
    let q = c.loop-n.picks in
    let z = c.next_down-rising.new.work in
    let m = c.next_down-rising.new.marks in
    let sunk = c.loop-n.invariant.sunk in
    let lt : c.loop-n.n < c.args.h = omega (arith, c.loop-n-test.true, c.loop-n.auto.n-end) in
    let step : IsGreatestStep k g.spans (nth p.lanes c.loop-n.n) z m = subst (λ y. IsGreatestStep k g.spans y z m) c.lane.ensures c.next_down-rising.ensures.step in
    let size : length z ≡ length k.model.states = step.lower.numbers.size in
    let inside : c.loop-n.n + 1 < length p.lanes = omega (arith, lt, sunk.has.count) in
    let same = size ∙ sym (sunk.has.sizes (c.loop-n.n + 1) (omega (arith, lt))) in
    let same_marks = step.lower.size ∙ sym (sunk.has_choices.sizes c.loop-n.n lt) in
    record {
      sunk = rw (c.write-in-loop-n.ensures, c.write-in-loop-n-2.ensures) (sunk_more k g.spans c.args.h c.loop-n.n p.lanes q.lanes z m lt sunk step);
      shape = rw c.write-in-loop-n.ensures (shape_then c.args.numbers.now p _ c.loop-n.invariant.shape (c.lanes_have_shapes.ensures.writes p (c.loop-n.n + 1) z same));
      marked = rw c.write-in-loop-n-2.ensures (shape_then c.args.picks.now q _ c.loop-n.invariant.marked (c.lanes_have_shapes-2.ensures.writes q c.loop-n.n m same_marks));
      size = size;
      count = step.lower.size;
      still = λ e. rw c.write-in-loop-n.ensures (still_lower k g.spans p.lanes (c.loop-n.n + 1) (nth p.lanes c.loop-n.n) z m inside (sym c.lane.ensures ∙ c.next_down-rising.ensures.same e) step);
    }

pub write-requires-in-loop-n-clause-some : goal.write-requires-in-loop-n-clause-some
write-requires-in-loop-n-clause-some g c = omega (arith, c.loop-n-test.true, c.loop-n.auto.n-end, c.loop-n.invariant.sunk.has.count)

pub write-requires-in-loop-n-clause-size : goal.write-requires-in-loop-n-clause-size
write-requires-in-loop-n-clause-size g c =
    let lt : c.loop-n.n < c.args.h = omega (arith, c.loop-n-test.true, c.loop-n.auto.n-end) in
    c.next_down-rising.ensures.step.lower.numbers.size ∙ sym (c.loop-n.invariant.sunk.has.sizes (c.loop-n.n + 1) (omega (arith, lt)))

pub write-requires-in-loop-n-2-clause-some : goal.write-requires-in-loop-n-2-clause-some
write-requires-in-loop-n-2-clause-some g c = omega (arith, c.loop-n-test.true, c.loop-n.auto.n-end, c.loop-n.invariant.sunk.has_choices.count)

pub write-requires-in-loop-n-2-clause-size : goal.write-requires-in-loop-n-2-clause-size
write-requires-in-loop-n-2-clause-size g c =
    let lt : c.loop-n.n < c.args.h = omega (arith, c.loop-n-test.true, c.loop-n.auto.n-end) in
    c.next_down-rising.ensures.step.lower.size ∙ sym (c.loop-n.invariant.sunk.has_choices.sizes c.loop-n.n lt)

pub returns-clause-lowers : goal.returns-clause-lowers
returns-clause-lowers g c =
    let k = c.args.rows.now.case in
    let is : IsCase k = c.w.ensures.case in
    let all : c.loop-n.n ≡ c.args.h = omega (arith, c.loop-n-test.false, c.loop-n.auto.n-end) in
    let sunk = subst (λ n. HaveSunk k g.spans c.args.h n c.loop-n.numbers.lanes c.loop-n.picks.lanes) all c.loop-n.invariant.sunk in
    c.steps_make_certificates.ensures.greatest k g.spans c.args.h (record { numbers = c.loop-n.numbers.lanes; picks = c.loop-n.picks.lanes }) is c.requires.0.inside (sunk.has.count, sunk.has_choices.count) sunk.start sunk.steps
