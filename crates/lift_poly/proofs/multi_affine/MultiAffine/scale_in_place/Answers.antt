use Rattle.std.proofs.Common.{◌≡◌, pos, to_z, ap, ap₂, sym, ◌∙◌}
use Rattle.std.specs.Int.{w128}
use Rattle.std.proofs.lemmas.Int.{to_z-of_z}
use Rattle.lift_poly.specs.Arithmetic.{scaled}
use Rattle.lift_poly.proofs.Answers.{answered}
use Rattle.lift_poly.proofs.Division.{times-one}
use Rattle.lift_poly.proofs.Products.{times_is}
use Rattle.lift_poly.proofs.multi_affine.MultiAffine.scale_in_place.Goals as goal

pub returns-clause-answer : goal.returns-clause-answer
returns-clause-answer c =
    answered c.in_ok-terms.terms.items (scaled c.args.by c.args.self)
    (c.in_ok-terms.ensures.multiple ∙ ap₂ scaled (to_z-of_z w128 c.args.by c.ranges.by) c.self.view_is) c.in_ok-terms.ensures.fits

pub returns-then-by-eq1-clause-answer : goal.returns-then-by-eq1-clause-answer
returns-then-by-eq1-clause-answer c =
    let one : c.args.by ≡ pos 1 = sym (to_z-of_z w128 c.args.by c.ranges.by) ∙ ap (to_z w128) c.if-by-eq1.true in
    let held = c.self.invariant in
    answered c.self.inside.terms.items (scaled c.args.by c.args.self)
    (sym (times-one c.self.inside.terms.items) ∙ times_is (pos 1) c.self.inside.terms.items (λ e. cc e) held.polynomial ∙ ap₂ scaled (sym one) c.self.view_is) held
