use Rattle.std.proofs.Common.{rules, to_z-of_z, SFits}
use mir.Syntax.{w128}
use Rattle.lift_grid.specs.Rectangle.{spans_of}
use Rattle.corner_lift.specs.Certificate.{mark}
use Rattle.lift_cert.proofs.RejectMisses.{weight_least, weight_most}
use Rattle.lift_cert.proofs.reject.ChosenRow.weight_below.Goals as goal

pub returns-clause-least : goal.returns-clause-least
returns-clause-least c =
    let fits : SFits w128 c.weight_into.result = search rules in
    rw (to_z-of_z fits, c.weight_into.ensures)
    (weight_least c.rows_at_corners.ensures.rise c.corners_bound_weights.ensures.sum c.rows_at_corners.ensures.parameters
    c.args.self.now.case.now (spans_of c.args.self.now.sides.now) c.args.self.now.state c.args.self.now.choice c.args.corner c.requires.case
    (record { rectangle = c.requires.sides.rectangle.spans; within = c.requires.sides.within }) c.requires.at.state c.requires.at.choice
    (mark c.ranks.result.now) c.rank-rank.result)

pub returns-clause-most : goal.returns-clause-most
returns-clause-most c =
    let fits : SFits w128 c.weight_into.result = search rules in
    rw (to_z-of_z fits, c.weight_into.ensures)
    (weight_most c.rows_at_corners.ensures.rise c.corners_bound_weights.ensures.sum c.rows_at_corners.ensures.parameters
    c.args.self.now.case.now (spans_of c.args.self.now.sides.now) c.args.self.now.state c.args.self.now.choice c.args.corner c.requires.case
    (record { rectangle = c.requires.sides.rectangle.spans; within = c.requires.sides.within }) c.requires.at.state c.requires.at.choice
    (mark c.ranks.result.now) c.rank-rank.result c.requires.at.corner)
