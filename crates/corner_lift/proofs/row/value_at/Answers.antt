use Rattle.std.proofs.Common.{rules, subst, ◌∙◌, to_z-of_z, SFits}
use mir.Syntax.{w128}
use Rattle.lift_grid.specs.Rectangle.{spans_of}
use Rattle.corner_lift.specs.Corner.{corner}
use Rattle.corner_lift.specs.Case.{number}
use Rattle.corner_lift.specs.Ends.{StandFor}
use Rattle.corner_lift.proofs.Cases.{pairs_of, few_of, room_of, stands_of}
use Rattle.corner_lift.proofs.row.value_at.Goals as goal

pub at-ends-requires-clause-pairs : goal.at-ends-requires-clause-pairs
at-ends-requires-clause-pairs c = rw c.requires.support
    (pairs_of c.args.case.now c.args.row.now c.args.corners.now.sides.now c.requires.case c.requires.sides c.requires.row)

pub at-ends-requires-clause-few : goal.at-ends-requires-clause-few
at-ends-requires-clause-few c = rw c.requires.support
    (few_of c.args.case.now c.args.row.now c.args.corners.now.sides.now c.requires.case c.requires.sides c.requires.row)

pub sum_of-requires-clause-room : goal.sum_of-requires-clause-room
sum_of-requires-clause-room c =
    room_of c.args.case.now c.args.row.now c.args.corners.now.sides.now c.requires.case c.requires.sides c.requires.row c.at-ends.result
    (rw c.requires.support at c.at-ends.ensures.count) (c.at-ends.ensures.sizes c.args.case.now.d)

pub returns : goal.returns
returns c =
    let sum_fits : SFits w128 c.sum_of.result = search rules in
    let k = c.args.case.now in
    let stand = subst (λ set. StandFor k.d c.at-ends.result (corner k.d (spans_of c.args.corners.now.sides.now) set c.args.corner) set)
    c.requires.support (c.at-ends.ensures.stand k.d) in
    to_z-of_z sum_fits ∙ c.sum_of.ensures ∙ stands_of k c.args.row.now c.args.corners.now.sides.now c.requires.case c.requires.sides
    c.requires.row c.at-ends.result c.args.corner (number c.args.vec.now) stand
