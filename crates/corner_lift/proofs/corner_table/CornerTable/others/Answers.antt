use Rattle.std.proofs.Common.{◌∙◌, ap}
use Rattle.corner_lift.specs.Case.{number}
use Rattle.corner_lift.specs.Dot.{dot, but_at}
use Rattle.corner_lift.proofs.OtherStates.{one}
use Rattle.corner_lift.proofs.ReadRows as rows
use Rattle.corner_lift.proofs.corner_table.CornerTable.others.Goals as goal

pub returns-clause-sum : goal.returns-clause-sum
returns-clause-sum g c =
    c.others_in_lane.ensures.sum ∙ ap (λ ws. dot (but_at c.args.s (number c.args.vec.now)) ws c.row-row.result.targets.now)
    c.corner_of.ensures
    ∙ rows.others_sum_is c.args.self.now.case g.spans c.row-row.result.weights.now c.args.s c.args.a c.row-row.result.place
    c.row-row.result.targets.now c.row-row.ensures.row c.args.corner c.requires.1.1.0 c.args.vec.now c.requires.1.1.1.0 c.requires.1.1.1.1

pub returns-clause-whole : goal.returns-clause-whole
returns-clause-whole g c =
    c.others_in_lane.ensures.whole ∙ ap (λ ws. dot (but_at c.args.s one) ws c.row-row.result.targets.now) c.corner_of.ensures
    ∙ rows.others_whole_is c.args.self.now.case g.spans c.row-row.result.weights.now c.args.s c.args.a c.row-row.result.place
    c.row-row.result.targets.now c.row-row.ensures.row c.args.corner c.requires.1.1.0 c.args.vec.now c.requires.1.1.1.0 c.requires.1.1.1.1

pub returns-clause-least : goal.returns-clause-least
returns-clause-least g c =
    rw (c.others_in_lane.ensures.sum, c.others_in_lane.ensures.whole, c.corner_of.ensures)
    (rows.others_are_least c.args.self.now.case g.spans c.row-row.result.weights.now c.args.s c.args.a c.row-row.result.place
    c.row-row.result.targets.now c.row-row.ensures.row c.args.corner c.requires.1.1.0 c.args.vec.now c.requires.1.1.1.0 c.requires.1.1.1.1)
