use Rattle.std.proofs.Common.{rules, ◌≡◌, ◌≢◌, ℕ, ◌<◌, ◌+◌, ◌*◌, ◌%◌, ◌∙◌, ap, pos, List, ℤ, length, slice_index_or, to_z-of_z, SFits, w64, arith}
use Rattle.lift_grid.specs.Rectangle.{spans_of}
use Rattle.corner_lift.specs.Ends.{End}
use Rattle.corner_lift.proofs.Gathering.{AreGathered, span_left, below_16, gathered_out, gathered_in, gathered_all, room_left, two_each, ends_stand, ends_sizes, ends_count}
use Rattle.corner_lift.proofs.ends.Ends.at.Goals as goal
use Rattle.corner_lift.proofs.ends.Ends.at.Goals.{then-left-eq1, else-left-eq1}

in_sides : (sides : List ℤ) (support corner : ℕ) (ends : List End) (left bits parameter : ℕ) → AreGathered (spans_of sides) support corner ends left bits parameter → left ≢ 0 → 2 * parameter + 1 < length sides
in_sides sides support corner ends left bits parameter h some =
    omega (arith, two_each sides, span_left (spans_of sides) support corner ends left bits parameter h some)

pub overflow_mul-parameter : goal.overflow_mul-parameter
overflow_mul-parameter c = record { fits = omega (arith, below_16 (spans_of c.args.sides.now) c.args.support c.args.corner c.loop-left.ends c.loop-left.left c.loop-left.bits c.loop-left.parameter c.loop-left.invariant c.loop-left-test.true c.ranges.support.fits) }

pub overflow_add-parameter : goal.overflow_add-parameter
overflow_add-parameter c = record { fits = omega (arith, below_16 (spans_of c.args.sides.now) c.args.support c.args.corner c.loop-left.ends c.loop-left.left c.loop-left.bits c.loop-left.parameter c.loop-left.invariant c.loop-left-test.true c.ranges.support.fits) }

pub bounds-sides-parameter : goal.bounds-sides-parameter
bounds-sides-parameter c =
    omega (arith, in_sides c.args.sides.now c.args.support c.args.corner c.loop-left.ends c.loop-left.left c.loop-left.bits c.loop-left.parameter c.loop-left.invariant c.loop-left-test.true)

pub push-requires-clause-room : goal.push-requires-clause-room
push-requires-clause-room c =
    omega (arith, c.requires.few, room_left (spans_of c.args.sides.now) c.args.support c.args.corner c.loop-left.ends c.loop-left.left c.loop-left.bits c.loop-left.parameter c.loop-left.invariant c.loop-left-test.true c.if-left-eq1.true)

pub push-requires-clause-parameter : goal.push-requires-clause-parameter
push-requires-clause-parameter c =
    below_16 (spans_of c.args.sides.now) c.args.support c.args.corner c.loop-left.ends c.loop-left.left c.loop-left.bits c.loop-left.parameter c.loop-left.invariant c.loop-left-test.true c.ranges.support.fits

pub overflow_add-parameter-in-loop-left : goal.overflow_add-parameter-in-loop-left
overflow_add-parameter-in-loop-left c =
    record { fits = omega (arith, below_16 (spans_of c.args.sides.now) c.args.support c.args.corner c.loop-left.ends c.loop-left.left c.loop-left.bits c.loop-left.parameter c.loop-left.invariant c.loop-left-test.true c.ranges.support.fits) }

pub loop-left-preserved : goal.loop-left-preserved
loop-left-preserved c =
    let sides = c.args.sides.now in
    let parameter = c.loop-left.parameter in
    let bits = c.loop-left.bits in
    let invariant = c.loop-left.invariant in
    elim c.if-left-eq1.branch [
      | then-left-eq1 w ↦
          let in_row = in_sides sides c.args.support c.args.corner c.loop-left.ends c.loop-left.left bits parameter invariant c.loop-left-test.true in
          let end_fits : SFits w64 (slice_index_or sides (2 * parameter + bits % 2) (pos 0)) = search rules in
          let end_is = c.rows_are_rectangles.ensures.ends sides parameter (bits % 2) (omega arith) in_row in
          rw (w.ends-is, w.bits-is) (rw w.push.ensures (rw (to_z-of_z end_fits) (gathered_in (spans_of sides) c.args.support c.args.corner c.loop-left.ends c.loop-left.left bits parameter invariant c.loop-left-test.true (slice_index_or sides (2 * parameter + bits % 2) (pos 0)) w.if-left-eq1.true end_is)))
      | else-left-eq1 w ↦
          let even : c.loop-left.left % 2 ≡ 0 = omega (arith, w.if-left-eq1.false) in
          rw (w.ends-is, w.bits-is) (gathered_out (spans_of sides) c.args.support c.args.corner c.loop-left.ends c.loop-left.left bits parameter invariant c.loop-left-test.true even)
    ]

pub returns-clause-chosen : goal.returns-clause-chosen
returns-clause-chosen c = gathered_all (spans_of c.args.sides.now) c.args.support c.args.corner c.loop-left.ends c.loop-left.left c.loop-left.bits c.loop-left.parameter c.loop-left-test.false c.loop-left.invariant

pub returns-clause-stand : goal.returns-clause-stand
returns-clause-stand c =
    λ d. rw (gathered_all (spans_of c.args.sides.now) c.args.support c.args.corner c.loop-left.ends c.loop-left.left c.loop-left.bits c.loop-left.parameter c.loop-left-test.false c.loop-left.invariant) (ends_stand d (spans_of c.args.sides.now) c.args.support c.args.corner)

pub returns-clause-count : goal.returns-clause-count
returns-clause-count c =
    ap length (gathered_all (spans_of c.args.sides.now) c.args.support c.args.corner c.loop-left.ends c.loop-left.left c.loop-left.bits c.loop-left.parameter c.loop-left-test.false c.loop-left.invariant)
    ∙ ends_count 0 (spans_of c.args.sides.now) c.args.support c.args.corner

pub returns-clause-sizes : goal.returns-clause-sizes
returns-clause-sizes c =
    λ d. rw (gathered_all (spans_of c.args.sides.now) c.args.support c.args.corner c.loop-left.ends c.loop-left.left c.loop-left.bits c.loop-left.parameter c.loop-left-test.false c.loop-left.invariant) (ends_sizes d 0 (spans_of c.args.sides.now) c.args.support c.args.corner)
