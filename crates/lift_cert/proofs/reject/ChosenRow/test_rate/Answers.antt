use Rattle.std.proofs.Common.{rules, ℤ, ◌≡◌, ◌∙◌, ◌≤ℤ◌, ◌<ℤ◌, Bool, false, IsTrue, to_z, of_z, to_z-of_z, SFits, refl}
use Rattle.std.specs.Prelude.{◌↔◌}
use mir.Syntax.{w128}
use Rattle.std.proofs.lemmas.Int.{by_lt_z}
use Rattle.lift_grid.specs.Rectangle.{spans_of}
use Rattle.corner_lift.specs.Case.{row_whole}
use Rattle.lift_cert.specs.RejectMiss.{weight_below}
use Rattle.lift_cert.proofs.reject.ChosenRow.test_rate.Goals as goal
use Rattle.lift_cert.proofs.reject.ChosenRow.test_rate.Goals.{After-is_enough}

-- what is compared
weight_is : (c : After-is_enough) → to_z w128 (of_z w128 c.weight_below-weight.result)
    ≡ weight_below c.args.self.now.case.now (spans_of c.args.self.now.sides.now) c.args.self.now.r.now c.args.self.now.state
    c.args.self.now.choice c.args.corner
weight_is c = let fits : SFits w128 c.weight_below-weight.result = search rules in to_z-of_z fits ∙ c.weight_below-weight.ensures.value

whole_is : (c : After-is_enough) → to_z w128 (of_z w128 c.whole-whole.result)
    ≡ row_whole c.args.self.now.case.now c.args.self.now.state c.args.self.now.choice
whole_is c = let fits : SFits w128 c.whole-whole.result = search rules in to_z-of_z fits ∙ c.whole-whole.ensures.value

-- the answer no says that the product is less
too_little : (b : Bool) (all product : ℤ) → IsTrue b ↔ all ≤ℤ product → b ≡ false → product <ℤ all
too_little b all product test isnt = by_lt_z product all (λ lt. lt) (λ le. let is = test.1 le in absurd (cc (isnt, is)))

pub returns-then-not-is_enough-clause-miss : goal.returns-then-not-is_enough-clause-miss
returns-then-not-is_enough-clause-miss c =
    let at = (goal.at.returns-then-not-is_enough-clause-miss c).After-is_enough in (
      refl,
      record {
        at = c.requires.at;
        mean = c.requires.mean;
        weight_is = weight_is at;
        e_is = c.e-e.ensures;
        whole_is = whole_is at;
        wrong = too_little _ _ _ c.is_enough.ensures c.if-not-is_enough.true;
      },
    )

pub returns-clause-miss : goal.returns-clause-miss
returns-clause-miss c =
    let at = (goal.at.returns-clause-miss c).After-is_enough in
    let enough = c.is_enough.ensures.0 c.if-not-is_enough.false in
    rw (← weight_is at, ← whole_is at, ← c.e-e.ensures) enough
