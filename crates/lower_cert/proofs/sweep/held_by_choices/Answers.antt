use Rattle.std.proofs.Common.{rules, SFits, w64, to_z, of_z, to_z-of_z, arith}
use Rattle.lift_poly.proofs.Ring.{linear, le_from_test}
use Rattle.corner_lift.specs.Case.{number}
use Rattle.lower_cert.proofs.Means.{stand}
use Rattle.lower_cert.proofs.Sweeping.{hold_next}
use Rattle.lower_cert.proofs.sweep.held_by_choices.Goals as goal

pub loop-a-preserved : goal.loop-a-preserved
loop-a-preserved g c =
    let laws = c.premises.ensures in
    let fits : SFits w64 c.greater-most.result = search rules in
    let held_fits : SFits w64 c.held.result = search rules in
    let up = rw (to_z-of_z held_fits) at c.greater-most.ensures in
    rw (to_z-of_z fits) (hold_next c.args.rows.now.case g.spans (stand laws c.args.rows.now.case g.spans c.w.ensures.case c.requires.0.table.inside) c.args.lane.now c.args.s c.loop-a.a _ c.held.result c.greater-most.result c.loop-a.invariant c.held.ensures.most up.0 up.1.0)

pub returns-then-number-most : goal.returns-then-number-most
returns-then-number-most g c =
    let fits : SFits w64 c.greater-most.result = search rules in
    let number_fits : SFits w64 (number c.args.lane.now c.args.s) = search rules in
    let le = le_from_test (to_z w64 (of_z w64 (number c.args.lane.now c.args.s))) (to_z w64 (of_z w64 c.greater-most.result)) c.if-number-most.true in
    rw (to_z-of_z fits) (record {
      least = omega (arith, linear, c.loop-a.invariant.least, c.greater-most.ensures.0);
      each = λ a lt choice low. absurd (omega (arith, linear, low, le, to_z-of_z fits, to_z-of_z number_fits));
    })
