use Rattle.std.proofs.Common.{rules, ◌≡◌, ◌∙◌, ◌*ℤ◌, ap₂, refl, to_z, of_z, to_z-of_z, SFits, w64, arith}
use mir.Syntax.{w128}
use Rattle.std.proofs.lemmas.Int.{ints}
use Rattle.lift_grid.specs.Rectangle.{spans_of}
use Rattle.corner_lift.specs.Case.{number, row_value, row_whole}
use Rattle.lift_cert.specs.Miss.{IsAcceptedCorner}
use Rattle.lift_cert.proofs.Misses.{value_small, product_small, number_size, one_more}
use Rattle.lift_cert.proofs.accept.test_row.Goals as goal
use Rattle.lift_cert.proofs.accept.test_row.Goals.{After-row_value-left}

-- the sides that are compared
left_is : (c : After-row_value-left) → to_z w128 (of_z w128 c.row_value-left.result) ≡ row_value c.args.case.now (spans_of c.args.sides.now) c.args.state c.args.choice c.args.x.now c.loop-corner.corner
left_is c = let fits : SFits w128 c.row_value-left.result = search rules in to_z-of_z fits ∙ c.row_value-left.ensures

right_is : (c : After-row_value-left) → to_z w128 (of_z w128 c.times-right.result) ≡ number c.args.x.now c.args.state *ℤ row_whole c.args.case.now c.args.state c.args.choice
right_is c =
    let fits : SFits w128 c.times-right.result = search rules in
    let number_fits : SFits w64 (number c.args.x.now c.args.state) = search rules in
    let whole_fits : SFits w128 c.whole.result = search rules in
    to_z-of_z fits ∙ c.times-right.ensures ∙ ap₂ ◌*ℤ◌ (to_z-of_z number_fits) (to_z-of_z whole_fits ∙ c.whole.ensures.value)

pub returns-then-left-right-clause-miss : goal.returns-then-left-right-clause-miss
returns-then-left-right-clause-miss c = (
  refl,
  record {
    state = c.requires.state;
    inner = c.requires.inner;
    choice = c.requires.choice;
    rows = c.requires.before;
    corner = rw c.corners_of-corner-end.ensures.count at c.loop-corner-test.true;
    corners = c.loop-corner.invariant;
    left_is = left_is (goal.at.returns-then-left-right-clause-miss c).After-row_value-left;
    right_is = right_is (goal.at.returns-then-left-right-clause-miss c).After-row_value-left;
    wrong = omega (arith, ints, c.if-left-right.true);
  },
)

pub returns-then-left-right-clause-numbers : goal.returns-then-left-right-clause-numbers
returns-then-left-right-clause-numbers c =
    let k = c.args.case.now in
    let room = rw c.whole.ensures.value at c.whole.ensures.room in
    rw (left_is (goal.at.returns-then-left-right-clause-numbers c).After-row_value-left, right_is (goal.at.returns-then-left-right-clause-numbers c).After-row_value-left) (
      value_small c.rows_at_corners.ensures.range k c.args.sides.now c.args.state c.args.choice c.loop-corner.corner c.args.x.now c.corners_of-corner-end.ensures.case c.requires.sides c.requires.state c.requires.choice c.requires.numbers room,
      product_small k c.args.state c.args.choice room (number c.args.x.now c.args.state) (number_size c.rows_at_corners.ensures.numbers k c.args.x.now c.args.state c.requires.numbers),
    )

pub loop-corner-preserved : goal.loop-corner-preserved
loop-corner-preserved c =
    one_more (IsAcceptedCorner c.args.case.now (spans_of c.args.sides.now) c.args.x.now c.args.state c.args.choice) c.loop-corner.corner c.loop-corner.invariant
    (omega (arith, ints, c.if-left-right.false, left_is (goal.at.loop-corner-preserved c).After-row_value-left, right_is (goal.at.loop-corner-preserved c).After-row_value-left))

pub returns-clause-miss : goal.returns-clause-miss
returns-clause-miss c =
    let all = rw c.corners_of-corner-end.ensures.count at c.loop-corner-test.false in
    λ corner lt. c.loop-corner.invariant corner (omega (arith, all))
