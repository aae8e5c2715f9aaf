use Rattle.std.proofs.Common.{rules, SFits, w64, to_z-of_z, arith}
use Rattle.corner_lift.specs.Case.{number}
use Rattle.lower_cert.proofs.Means.{stand}
use Rattle.lower_cert.proofs.Sweeping.{hold_one, only_holds, target_inside}
use Rattle.lower_cert.proofs.sweep.held_by_only.Goals as goal

pub bounds-lane-target : goal.bounds-lane-target
bounds-lane-target g c =
    let single = c.in-Single.ensures in
    target_inside c.args.rows.now.case c.args.s 0 c.in-Single.target _ c.w.ensures.case (record { state = c.requires.1; choice = omega (arith, single.only) }) single.targets c.requires.0.numbers.size

pub returns-in-Single : goal.returns-in-Single
returns-in-Single g c =
    let laws = c.premises.ensures in
    let single = c.in-Single.ensures in
    let fits : SFits w64 (number c.args.lane.now c.in-Single.target) = search rules in
    rw (to_z-of_z fits) (hold_one c.args.rows.now.case g.spans c.args.lane.now c.args.s (number c.args.lane.now c.in-Single.target) single.only (laws.numbers c.args.rows.now.case c.args.lane.now c.in-Single.target c.requires.0.numbers).0
    (only_holds c.args.rows.now.case g.spans (stand laws c.args.rows.now.case g.spans c.w.ensures.case c.requires.0.table.inside) c.args.lane.now c.args.s 0 c.in-Single.target (omega (arith, single.only)) single.targets))
