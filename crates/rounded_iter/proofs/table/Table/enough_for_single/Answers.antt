use Rattle.std.proofs.Common.{rules, SFits, w64, to_z-of_z}
use Rattle.corner_lift.specs.Case.{number}
use Rattle.rounded_iter.proofs.Solving.{laws_of, only_choice, only_inside, only_solved, whole_positive}
use Rattle.rounded_iter.proofs.table.Table.enough_for_single.Goals as goal

pub bounds-lane-target : goal.bounds-lane-target
bounds-lane-target g c =
    let t = c.args.self.now in
    let has = only_choice t.case.model c.args.s c.requires.0.state c.requires.1.only in
    only_inside (laws_of c.rows_at_corners.ensures.parameters c.rows_at_corners.ensures.numbers c.rows_at_corners.ensures.range c.rows_at_corners.ensures.rise c.corners_bound_weights.ensures.sum) t.case g.spans c.requires.0.read.case c.requires.0.read.table.inside c.args.s 0 has c.args.lane.now c.requires.0.numbers t.rule.corner c.args.target c.requires.1.targets

pub returns : goal.returns
returns g c =
    let t = c.args.self.now in
    let has = only_choice t.case.model c.args.s c.requires.0.state c.requires.1.only in
    let fits : SFits w64 c.more_extreme.result = search rules in
    let number_fits : SFits w64 (number c.args.lane.now c.args.s) = search rules in
    let target_fits : SFits w64 (number c.args.lane.now c.args.target) = search rules in
    rw (to_z-of_z fits)
    (only_solved (laws_of c.rows_at_corners.ensures.parameters c.rows_at_corners.ensures.numbers c.rows_at_corners.ensures.range c.rows_at_corners.ensures.rise c.corners_bound_weights.ensures.sum) t.case g.spans c.requires.0.read.case c.requires.0.read.table.inside c.args.s 0 has c.args.lane.now c.requires.0.numbers t.rule.corner c.args.target c.requires.1.targets (whole_positive (laws_of c.rows_at_corners.ensures.parameters c.rows_at_corners.ensures.numbers c.rows_at_corners.ensures.range c.rows_at_corners.ensures.rise c.corners_bound_weights.ensures.sum) t.case g.spans c.requires.0.read.case c.requires.0.read.table.inside c.args.s 0 has) c.more_extreme.result (rw (to_z-of_z number_fits, to_z-of_z target_fits) at c.more_extreme.ensures))
