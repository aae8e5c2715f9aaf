use Rattle.std.proofs.Common.{rules, ap, subst, ◌∙◌, length, to_z-of_z, SFits}
use mir.Syntax.{w128}
use Rattle.lift_grid.specs.Rectangle.{spans_of}
use Rattle.lift_model.specs.Model.{row_at}
use Rattle.corner_lift.specs.Corner.{corner, corner_sum}
use Rattle.corner_lift.specs.Case.{IsRowOf}
use Rattle.corner_lift.specs.Certificate.{ranked_below, mark}
use Rattle.corner_lift.specs.Ends.{StandFor}
use Rattle.corner_lift.proofs.Cases.{row_in_case, pairs_of, few_of, room_of, stands_of, targets_of}
use Rattle.corner_lift.proofs.row.weight_into.Goals as goal

pub at-ends-requires-clause-pairs : goal.at-ends-requires-clause-pairs
at-ends-requires-clause-pairs c =
    let row = row_in_case c.args.case.now c.model.result.now c.row-row.result.now c.args.s c.args.a c.model.ensures.value c.row-row.ensures.value c.model.ensures.case c.requires.state c.requires.choice in
    rw c.support.ensures (pairs_of c.args.case.now c.row-row.result.now c.args.sides.now c.model.ensures.case c.requires.sides row)

pub at-ends-requires-clause-few : goal.at-ends-requires-clause-few
at-ends-requires-clause-few c =
    let row = row_in_case c.args.case.now c.model.result.now c.row-row.result.now c.args.s c.args.a c.model.ensures.value c.row-row.ensures.value c.model.ensures.case c.requires.state c.requires.choice in
    rw c.support.ensures (few_of c.args.case.now c.row-row.result.now c.args.sides.now c.model.ensures.case c.requires.sides row)

pub sum_below-requires-clause-room : goal.sum_below-requires-clause-room
sum_below-requires-clause-room c =
    let row = row_in_case c.args.case.now c.model.result.now c.row-row.result.now c.args.s c.args.a c.model.ensures.value c.row-row.ensures.value c.model.ensures.case c.requires.state c.requires.choice in
    room_of c.args.case.now c.row-row.result.now c.args.sides.now c.model.ensures.case c.requires.sides row c.at-ends.result (rw c.support.ensures at c.at-ends.ensures.count) (c.at-ends.ensures.sizes c.args.case.now.d)

pub sum_below-requires-clause-targets : goal.sum_below-requires-clause-targets
sum_below-requires-clause-targets c =
    let row : IsRowOf c.args.case.now c.row-row.result.now = row_in_case c.args.case.now c.model.result.now c.row-row.result.now c.args.s c.args.a c.model.ensures.value c.row-row.ensures.value c.model.ensures.case c.requires.state c.requires.choice in
    targets_of (length c.args.case.now.model.states) (length c.args.case.now.model.names) (length c.args.ranks.now) c.row-row.result.now row.valid c.requires.ranks

pub returns : goal.returns
returns c =
    let sum_fits : SFits w128 c.sum_below.result = search rules in
    let k = c.args.case.now in
    let sides = c.args.sides.now in
    let row = row_in_case k c.model.result.now c.row-row.result.now c.args.s c.args.a c.model.ensures.value c.row-row.ensures.value c.model.ensures.case c.requires.state c.requires.choice in
    let stand = subst (λ set. StandFor k.d c.at-ends.result (corner k.d (spans_of sides) set c.args.corner) set) c.support.ensures (c.at-ends.ensures.stand k.d) in
    to_z-of_z sum_fits ∙ c.sum_below.ensures
    ∙ stands_of k c.row-row.result.now sides c.model.ensures.case c.requires.sides row c.at-ends.result c.args.corner (ranked_below (mark c.args.ranks.now) c.args.below) stand
    ∙ ap (λ r. corner_sum k.d (spans_of sides) r c.args.corner (ranked_below (mark c.args.ranks.now) c.args.below)) (c.row-row.ensures.value ∙ ap (λ m. row_at m c.args.s c.args.a) c.model.ensures.value)
