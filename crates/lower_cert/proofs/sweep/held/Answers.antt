use Rattle.std.proofs.Common.{rules, SFits, w64, to_z-of_z}
use Rattle.corner_lift.specs.Case.{number}
use Rattle.lower_cert.proofs.Means.{stand}
use Rattle.lower_cert.proofs.Sweeping.{only_holds, target_inside}
use Rattle.lower_cert.proofs.sweep.held.Goals as goal

pub bounds-lane-target : goal.bounds-lane-target
bounds-lane-target g c = target_inside c.args.rows.now.case c.args.s c.args.a c.in-Some.target _ c.w.ensures.case c.requires.1 c.in-Some.ensures c.requires.0.numbers.size

pub returns-then-target-s-clause-least : goal.returns-then-target-s-clause-least
returns-then-target-s-clause-least g c =
    let fits : SFits w64 (number c.args.lane.now c.in-Some.target) = search rules in
    rw (to_z-of_z fits) ((c.premises.ensures.numbers c.args.rows.now.case c.args.lane.now c.in-Some.target c.requires.0.numbers).0)

pub returns-then-target-s-clause-most : goal.returns-then-target-s-clause-most
returns-then-target-s-clause-most g c =
    let laws = c.premises.ensures in
    let fits : SFits w64 (number c.args.lane.now c.in-Some.target) = search rules in
    rw (to_z-of_z fits) (only_holds c.args.rows.now.case g.spans (stand laws c.args.rows.now.case g.spans c.w.ensures.case c.requires.0.table.inside) c.args.lane.now c.args.s c.args.a c.in-Some.target c.requires.1.choice c.in-Some.ensures)

pub returns-in-Some-held_by_pair-clause-most : goal.returns-in-Some-held_by_pair-clause-most
returns-in-Some-held_by_pair-clause-most g c =
    let fits : SFits w64 c.in-Some-held_by_pair.number = search rules in
    rw (to_z-of_z fits) c.in-Some-held_by_pair.ensures.most

pub returns-in-None-clause-most : goal.returns-in-None-clause-most
returns-in-None-clause-most g c =
    let fits : SFits w64 c.held_by_least.result = search rules in
    rw (to_z-of_z fits) c.held_by_least.ensures.most
