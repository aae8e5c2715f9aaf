use Rattle.std.proofs.Common.{rules, ◌≡◌, ◌∙◌, ◌*ℤ◌, ap₂, to_z, of_z, to_z-of_z, SFits, w64, refl, arith}
use mir.Syntax.{w128}
use Rattle.std.proofs.lemmas.Int.{ints}
use Rattle.lift_grid.specs.Rectangle.{spans_of}
use Rattle.corner_lift.specs.Case.{row_value}
use Rattle.audit_cert.specs.Miss.{lesser, greater, product_of}
use Rattle.audit_cert.specs.Held.{claim_of, kind_of}
use Rattle.audit_cert.proofs.RowTests.{mean_missed, mean_met, left_fits, told_small}
use Rattle.audit_cert.proofs.corner.test_mean.Goals as goal
use Rattle.audit_cert.proofs.corner.test_mean.Goals.{After-beside-left}

pub times-product-requires : goal.times-product-requires
times-product-requires c =
    let fits : SFits w64 c.left_over.result = search rules in
    let whole_fits : SFits w128 c.whole.result = search rules in
    let room = rw c.whole.ensures.value at c.whole.ensures.room in
    let claim = claim_of c.args.claim.now in
    let size = left_fits c.rows_at_corners.ensures.numbers c.rows_at_corners.ensures.range c.args.case.now (spans_of c.args.sides.now) c.w.ensures.case
    (record { rectangle = c.requires.sides.rectangle.spans; within = c.requires.sides.within }) claim c.requires.form c.args.state c.args.choice
    (record { state = c.requires.at.row.state; choice = c.requires.at.row.choice }) in
    rw (to_z-of_z fits, to_z-of_z whole_fits, c.left_over.ensures, c.whole.ensures.value) (record { room = room _ size })

-- the sum and the product
sum_is : (c : After-beside-left) → to_z w128 (of_z w128 c.row_value-sum.result) ≡ row_value c.args.case.now (spans_of c.args.sides.now) c.args.state c.args.choice c.args.claim.now.targets.now c.args.corner
sum_is c = let fits : SFits w128 c.row_value-sum.result = search rules in to_z-of_z fits ∙ c.row_value-sum.ensures

product_is : (c : After-beside-left) → to_z w128 (of_z w128 c.times-product.result) ≡ product_of c.args.case.now (claim_of c.args.claim.now) c.args.state c.args.choice
product_is c =
    let fits : SFits w128 c.times-product.result = search rules in
    let left_fits : SFits w64 c.left_over.result = search rules in
    let whole_fits : SFits w128 c.whole.result = search rules in
    to_z-of_z fits ∙ c.times-product.ensures ∙ ap₂ ◌*ℤ◌ (to_z-of_z left_fits ∙ c.left_over.ensures) (to_z-of_z whole_fits ∙ c.whole.ensures.value)

left_is : (c : After-beside-left) → to_z w128 (of_z w128 c.beside-left.result.0) ≡ lesser (kind_of c.args.claim.now.kind) (row_value c.args.case.now (spans_of c.args.sides.now) c.args.state c.args.choice c.args.claim.now.targets.now c.args.corner) (product_of c.args.case.now (claim_of c.args.claim.now) c.args.state c.args.choice)
left_is c = let fits : SFits w128 c.beside-left.result.0 = search rules in to_z-of_z fits ∙ c.beside-left.ensures.left ∙ ap₂ (lesser (kind_of c.args.claim.now.kind)) (sum_is c) (product_is c)

right_is : (c : After-beside-left) → to_z w128 (of_z w128 c.beside-left.result.1) ≡ greater (kind_of c.args.claim.now.kind) (row_value c.args.case.now (spans_of c.args.sides.now) c.args.state c.args.choice c.args.claim.now.targets.now c.args.corner) (product_of c.args.case.now (claim_of c.args.claim.now) c.args.state c.args.choice)
right_is c = let fits : SFits w128 c.beside-left.result.1 = search rules in to_z-of_z fits ∙ c.beside-left.ensures.right ∙ ap₂ (greater (kind_of c.args.claim.now.kind)) (sum_is c) (product_is c)

pub returns-then-left-right-clause-miss : goal.returns-then-left-right-clause-miss
returns-then-left-right-clause-miss c =
    let at = (goal.at.returns-then-left-right-clause-miss c).After-beside-left in (
      refl,
      mean_missed c.rows_at_corners.ensures.numbers c.rows_at_corners.ensures.range c.args.case.now (spans_of c.args.sides.now) c.w.ensures.case
          (record { rectangle = c.requires.sides.rectangle.spans; within = c.requires.sides.within }) (claim_of c.args.claim.now) c.requires.form c.args.state c.args.choice
          (record { state = c.requires.at.row.state; choice = c.requires.at.row.choice }) c.args.corner _ _ c.requires.at (left_is at) (right_is at) (omega (arith, ints, c.if-left-right.true)),
    )

pub returns-then-left-right-clause-numbers : goal.returns-then-left-right-clause-numbers
returns-then-left-right-clause-numbers c =
    let at = (goal.at.returns-then-left-right-clause-numbers c).After-beside-left in
    let room = rw c.whole.ensures.value at c.whole.ensures.room in
    rw (left_is at, right_is at)
    (told_small c.rows_at_corners.ensures.numbers c.rows_at_corners.ensures.range c.args.case.now (spans_of c.args.sides.now) c.w.ensures.case
    (record { rectangle = c.requires.sides.rectangle.spans; within = c.requires.sides.within }) (claim_of c.args.claim.now) c.requires.form c.args.state c.args.choice
    (record { state = c.requires.at.row.state; choice = c.requires.at.row.choice }) room c.args.corner)

pub returns-clause-miss : goal.returns-clause-miss
returns-clause-miss c =
    let at = (goal.at.returns-clause-miss c).After-beside-left in
    mean_met c.rows_at_corners.ensures.numbers c.rows_at_corners.ensures.range c.args.case.now (spans_of c.args.sides.now) c.w.ensures.case
    (record { rectangle = c.requires.sides.rectangle.spans; within = c.requires.sides.within }) (claim_of c.args.claim.now) c.requires.form c.args.state c.args.choice
    (record { state = c.requires.at.row.state; choice = c.requires.at.row.choice }) c.args.corner _ _ (left_is at) (right_is at) (omega (arith, ints, c.if-left-right.false))
