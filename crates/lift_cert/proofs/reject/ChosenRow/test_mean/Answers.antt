use Rattle.std.proofs.Common.{rules, ◌≡◌, ◌∙◌, ◌*ℤ◌, ap₂, to_z, of_z, to_z-of_z, SFits, w64, refl, arith}
use mir.Syntax.{w128}
use Rattle.std.proofs.lemmas.Int.{ints}
use Rattle.lift_grid.specs.Rectangle.{spans_of}
use Rattle.corner_lift.specs.Case.{number, row_value, row_whole}
use Rattle.lift_cert.proofs.Misses.{value_small, product_small, number_size}
use Rattle.lift_cert.proofs.reject.ChosenRow.test_mean.Goals as goal
use Rattle.lift_cert.proofs.reject.ChosenRow.test_mean.Goals.{After-row_value-right}

-- the sides that are compared
left_is : (c : After-row_value-right) → to_z w128 (of_z w128 c.times-left.result)
    ≡ number c.args.self.now.r.now.numbers c.args.self.now.state *ℤ row_whole c.args.self.now.case.now c.args.self.now.state
    c.args.self.now.choice
left_is c =
    let fits : SFits w128 c.times-left.result = search rules in
    let number_fits : SFits w64 c.number.result = search rules in
    let whole_fits : SFits w128 c.whole.result = search rules in
    to_z-of_z fits ∙ c.times-left.ensures ∙ ap₂ ◌*ℤ◌ (to_z-of_z number_fits ∙ c.number.ensures) (to_z-of_z whole_fits ∙ c.whole.ensures.value)

right_is : (c : After-row_value-right) → to_z w128 (of_z w128 c.row_value-right.result)
    ≡ row_value c.args.self.now.case.now (spans_of c.args.self.now.sides.now) c.args.self.now.state c.args.self.now.choice
    c.args.self.now.r.now.numbers c.args.corner
right_is c = let fits : SFits w128 c.row_value-right.result = search rules in to_z-of_z fits ∙ rw (← c.numbers.ensures) c.row_value-right.ensures

pub returns-then-left-right-clause-miss : goal.returns-then-left-right-clause-miss
returns-then-left-right-clause-miss c = (
  refl,
  record {
    at = c.requires.at;
    left_is = left_is (goal.at.returns-then-left-right-clause-miss c).After-row_value-right;
    right_is = right_is (goal.at.returns-then-left-right-clause-miss c).After-row_value-right;
    wrong = omega (arith, ints, c.if-left-right.true);
  },
)

pub returns-then-left-right-clause-numbers : goal.returns-then-left-right-clause-numbers
returns-then-left-right-clause-numbers c =
    let k = c.args.self.now.case.now in
    let room = rw c.whole.ensures.value at c.whole.ensures.room in
    rw (left_is (goal.at.returns-then-left-right-clause-numbers c).After-row_value-right, right_is (goal.at.returns-then-left-right-clause-numbers c).After-row_value-right) (
      product_small k c.args.self.now.state c.args.self.now.choice room (number c.args.self.now.r.now.numbers c.args.self.now.state)
          (number_size c.rows_at_corners.ensures.numbers k c.args.self.now.r.now.numbers c.args.self.now.state c.requires.form.numbers),
      value_small c.rows_at_corners.ensures.range k c.args.self.now.sides.now c.args.self.now.state c.args.self.now.choice c.args.corner
          c.args.self.now.r.now.numbers c.requires.case c.requires.sides c.requires.at.state c.requires.at.choice c.requires.form.numbers
          room,
    )
