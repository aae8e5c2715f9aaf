use Rattle.std.proofs.Common.{pos, refl, to_z, of_z, rules, SFits, w64, to_z-of_z}
use Rattle.corner_lift.specs.Case.{number}
use Rattle.lift_poly.proofs.Ring.{le_from_test}
use Rattle.lower_cert.proofs.Means.{stand}
use Rattle.lower_cert.proofs.Lowering.{held_is, zero_allowed}
use Rattle.lower_cert.proofs.lower.is_allowed.Goals as goal

pub returns-then-number-le0 : goal.returns-then-number-le0
returns-then-number-le0 g c =
    let laws = c.premises.ensures in
    let fits : SFits w64 (number c.args.lane.now c.args.s) = search rules in
    let le = le_from_test (to_z w64 (of_z w64 (number c.args.lane.now c.args.s))) (pos 0) c.if-number-le0.true in
    let is = zero_allowed c.args.rows.now.case g.spans (stand laws c.args.rows.now.case g.spans c.w.ensures.case c.requires.0.inside) c.args.lane.now c.args.s c.args.a c.requires.1.1.choice (λ t. (laws.numbers c.args.rows.now.case c.args.lane.now t c.requires.1.0).0) (rw (to_z-of_z fits) at le) in
    (λ e. is, λ h. refl)

pub returns-in-Some : goal.returns-in-Some
returns-in-Some g c =
    let fits : SFits w64 (number c.args.lane.now c.args.s) = search rules in
    let is = held_is c.premises.ensures.parameters c.args.rows.now.case g.spans c.args.lane.now c.args.s c.args.a c.requires.0.inside in
    let test = rw (to_z-of_z fits) at c.in-Some.ensures in
    (λ e. is.0 (test.0 e), λ h. test.1 (is.1 h))

pub returns-in-None : goal.returns-in-None
returns-in-None g c =
    let fits : SFits w64 (number c.args.lane.now c.args.s) = search rules in
    let is = held_is c.premises.ensures.parameters c.args.rows.now.case g.spans c.args.lane.now c.args.s c.args.a c.requires.0.inside in
    let test = rw (to_z-of_z fits) at c.is_held.ensures in
    (λ e. is.0 (test.0 e), λ h. test.1 (is.1 h))
