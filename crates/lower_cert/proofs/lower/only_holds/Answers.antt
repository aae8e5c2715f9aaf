use Rattle.std.proofs.Common.{rules, ◌<◌, length, SFits, w64, to_z-of_z, arith}
use Rattle.lift_poly.proofs.Ring.{le_from_test, test_from_le}
use Rattle.lift_model.specs.Model.{choices}
use Rattle.corner_lift.specs.Case.{number}
use Rattle.lower_cert.proofs.Means.{stand}
use Rattle.lower_cert.proofs.Lowering.{held_is}
use Rattle.lower_cert.proofs.Sweeping.{target_inside}
use Rattle.lower_cert.proofs.Lanes.{single_allowed, allowed_single}
use Rattle.lower_cert.proofs.lower.only_holds.Goals as goal

pub bounds-lane-target : goal.bounds-lane-target
bounds-lane-target g c =
    let single = c.in-Single.ensures in
    target_inside c.args.rows.now.case c.args.s 0 c.in-Single.target _ c.w.ensures.case (record { state = c.requires.1.1; choice = omega (arith, single.only) }) single.targets c.requires.1.0.size

pub returns-in-Single-clause-allowed : goal.returns-in-Single-clause-allowed
returns-in-Single-clause-allowed g c =
    let k = c.args.rows.now.case in
    let x = c.args.lane.now in
    let s = c.args.s in
    let t = c.in-Single.target in
    let single = c.in-Single.ensures in
    let place = stand c.premises.ensures k g.spans c.w.ensures.case c.requires.0.inside in
    let choice : 0 < length (choices k.model s) = omega (arith, single.only) in
    let s_fits : SFits w64 (number x s) = search rules in
    let t_fits : SFits w64 (number x t) = search rules in
    rw (to_z-of_z s_fits, to_z-of_z t_fits) (
      λ e. single_allowed k g.spans place x s 0 t choice single.targets (le_from_test (number x s) (number x t) e),
      λ h. test_from_le (number x s) (number x t) (allowed_single k g.spans place x s 0 t choice single.targets h),
    )

pub returns-in_ok-yes-in-Pair-clause-allowed : goal.returns-in_ok-yes-in-Pair-clause-allowed
returns-in_ok-yes-in-Pair-clause-allowed g c =
    let fits : SFits w64 (number c.args.lane.now c.args.s) = search rules in
    let is = held_is c.premises.ensures.parameters c.args.rows.now.case g.spans c.args.lane.now c.args.s 0 c.requires.0.inside in
    let test = rw (to_z-of_z fits) at c.in_ok-yes-in-Pair.ensures in
    (λ e. is.0 (test.0 e), λ h. test.1 (is.1 h))
