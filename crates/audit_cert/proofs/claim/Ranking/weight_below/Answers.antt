use Rattle.std.proofs.Common.{rules, to_z-of_z, SFits, []}
use mir.Syntax.{w128}
use Rattle.lift_grid.specs.Rectangle.{spans_of}
use Rattle.audit_cert.specs.Held.{ranking_of}
use Rattle.audit_cert.proofs.Rows.{weight_range}
use Rattle.audit_cert.proofs.claim.Ranking.weight_below.Goals as goal

pub returns-clause-least : goal.returns-clause-least
returns-clause-least c =
    let fits : SFits w128 c.weight_into.result = search rules in
    rw (to_z-of_z fits, c.weight_into.ensures, c.rank-rank.ensures)
    (weight_range c.rows_at_corners.ensures.parameters c.args.case.now (spans_of c.args.sides.now) c.requires.sides.within
    c.rows_at_corners.ensures.least c.rows_at_corners.ensures.most c.w.ensures.case (record { rectangle = c.requires.sides.rectangle.spans; within = c.requires.sides.within })
    (ranking_of [] c.args.self.now) c.args.state c.args.choice c.args.corner (record { state = c.requires.state; choice = c.requires.choice }) c.requires.corner).0

pub returns-clause-most : goal.returns-clause-most
returns-clause-most c =
    let fits : SFits w128 c.weight_into.result = search rules in
    rw (to_z-of_z fits, c.weight_into.ensures, c.rank-rank.ensures)
    (weight_range c.rows_at_corners.ensures.parameters c.args.case.now (spans_of c.args.sides.now) c.requires.sides.within
    c.rows_at_corners.ensures.least c.rows_at_corners.ensures.most c.w.ensures.case (record { rectangle = c.requires.sides.rectangle.spans; within = c.requires.sides.within })
    (ranking_of [] c.args.self.now) c.args.state c.args.choice c.args.corner (record { state = c.requires.state; choice = c.requires.choice }) c.requires.corner).1
