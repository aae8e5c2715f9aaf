use Rattle.std.proofs.Common.{◌≡◌, pos, to_z, unsigned_abs, ap, sym, ◌∙◌, subst}
use Rattle.std.specs.Int.{w128}
use Rattle.std.proofs.lemmas.Int.{to_z-of_z}
use Rattle.lift_poly.specs.Arithmetic.{times, quotient, DividesEach}
use Rattle.lift_poly.proofs.Division.{quotient-one, times-one}
use Rattle.lift_poly.proofs.multi_affine.MultiAffine.divide.Goals as goal

pub quotient_terms-requires-clause-divides : goal.quotient_terms-requires-clause-divides
quotient_terms-requires-clause-divides c =
    subst (λ z. DividesEach (unsigned_abs z) c.deref.result.now) (sym (to_z-of_z w128 c.args.by c.ranges.by))
    (subst (DividesEach (unsigned_abs c.args.by)) (sym (c.deref.ensures.value ∙ c.self.view_is)) c.requires.divides)

pub returns-then-by-eq1-clause-quotient : goal.returns-then-by-eq1-clause-quotient
returns-then-by-eq1-clause-quotient c =
    let one : c.args.by ≡ pos 1 = sym (to_z-of_z w128 c.args.by c.ranges.by) ∙ ap (to_z w128) c.if-by-eq1.true in
    sym (ap (quotient c.args.self) one ∙ quotient-one c.args.self)

pub returns-then-by-eq1-clause-exact : goal.returns-then-by-eq1-clause-exact
returns-then-by-eq1-clause-exact c =
    let one : c.args.by ≡ pos 1 = sym (to_z-of_z w128 c.args.by c.ranges.by) ∙ ap (to_z w128) c.if-by-eq1.true in
    ap (λ z. times z c.args.self) one ∙ times-one c.args.self
