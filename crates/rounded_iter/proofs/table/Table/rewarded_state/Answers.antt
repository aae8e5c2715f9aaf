use Rattle.std.proofs.Common.{rules, SFits, w64, to_z-of_z, [], refl, ◌∙◌}
use Rattle.corner_lift.specs.Case.{number}
use Rattle.rounded_iter.proofs.Solving.{laws_of, same_number}
use Rattle.rounded_iter.proofs.Raising.{solved_by_top, solved_by_only}
use Rattle.rounded_iter.proofs.table.Table.rewarded_state.Goals as goal

pub returns-then-number-self : goal.returns-then-number-self
returns-then-number-self g c =
    let r = rw (← c.self.view_is) at c.requires.0 in
    let number_fits : SFits w64 (number c.args.lane.now c.args.s) = search rules in
    let top_fits : SFits w64 c.self.inside.top = search rules in
    rw (← c.self.view_is, to_z-of_z number_fits)
    (solved_by_top (laws_of c.rows_at_corners.ensures.parameters c.rows_at_corners.ensures.numbers c.rows_at_corners.ensures.range c.rows_at_corners.ensures.rise c.corners_bound_weights.ensures.sum) c.self.inside.rule c.self.inside.rows.now.case g.spans r.read.case r.read.table.inside c.args.lane.now r.numbers c.args.s r.state (r.read.case.asked.model.some_choice c.args.s [] r.state) (same_number (number c.args.lane.now c.args.s) c.self.inside.top number_fits top_fits c.if-number-self.true ∙ c.self.invariant))

pub returns-in-Some : goal.returns-in-Some
returns-in-Some g c =
    let r = rw (← c.self.view_is) at c.requires.0 in
    let fits : SFits w64 c.in-Some.number = search rules in
    let only = rw (← c.self.view_is) at (c.in-Some.ensures.only refl) in
    let solved = rw (← c.self.view_is) at c.in-Some.ensures.solved in
    rw (← c.self.view_is, to_z-of_z fits)
    (solved_by_only (laws_of c.rows_at_corners.ensures.parameters c.rows_at_corners.ensures.numbers c.rows_at_corners.ensures.range c.rows_at_corners.ensures.rise c.corners_bound_weights.ensures.sum) c.self.inside.rule c.self.inside.rows.now.case g.spans r.read.case r.read.table.inside c.args.lane.now r.numbers c.args.s r.state only c.in-Some.number solved)
