use Rattle.std.proofs.Common.{◌≡◌, ◌+◌, ◌^◌, ◌++◌, length, take, count_ones, ap, subst, sym, ◌∙◌, arith}
use Rattle.std.proofs.lemmas.List.{append-nil}
use Rattle.lift_grid.specs.Rectangle.{spans_of}
use Rattle.lift_model.specs.declared.entry.Entry.{Entry}
use Rattle.lift_model.specs.Model.{support}
use Rattle.corner_lift.specs.Corner.{corner, parameter_count}
use Rattle.corner_lift.specs.Ends.{StandFor}
use Rattle.corner_lift.specs.Table.{first_corners}
use Rattle.corner_lift.proofs.Cases.{pairs_of, few_of, room_of, ones_of, parameters_of}
use Rattle.corner_lift.proofs.Filling.{corners_more}
use Rattle.corner_lift.proofs.table.fill_row.Goals as goal

pub at-ends-requires-clause-pairs : goal.at-ends-requires-clause-pairs
at-ends-requires-clause-pairs c = rw c.support-support.ensures (pairs_of c.args.case.now c.args.row.now c.args.sides.now c.requires.case c.requires.sides c.requires.row)

pub at-ends-requires-clause-few : goal.at-ends-requires-clause-few
at-ends-requires-clause-few c = rw c.support-support.ensures (few_of c.args.case.now c.args.row.now c.args.sides.now c.requires.case c.requires.sides c.requires.row)

pub fill_corner-requires-clause-room : goal.fill_corner-requires-clause-room
fill_corner-requires-clause-room c =
    room_of c.args.case.now c.args.row.now c.args.sides.now c.requires.case c.requires.sides c.requires.row c.at-ends.result (rw c.support-support.ensures at c.at-ends.ensures.count) (c.at-ends.ensures.sizes c.args.case.now.d)

pub returns-clause-filled : goal.returns-clause-filled
returns-clause-filled c =
    let k = c.args.case.now in
    let spans = spans_of c.args.sides.now in
    let row = c.args.row.now in
    let size : length c.entries.result.now ≡ length row = ap (length {A = Entry}) c.entries.ensures in
    let stand = subst (λ set. StandFor k.d c.at-ends.result (corner k.d spans set 0) set) c.support-support.ensures (c.at-ends.ensures.stand k.d) in
    let ones = ones_of c.args.case.now c.args.row.now c.args.sides.now c.requires.case c.requires.sides c.requires.row ∙ sym (parameters_of c.args.case.now c.args.row.now c.args.sides.now c.requires.case c.requires.sides c.requires.row) in
    let none : parameter_count spans (support row) ≡ 0 = omega (arith, ones, c.if-support-gt0.false, ap count_ones c.support-support.ensures) in
    corners_more k.d spans row c.at-ends.result (take c.args.place c.args.weights.now) c.args.weights.now c.fill_corner.new.weights c.args.place (c.args.place + length c.entries.result.now) 0 (omega (arith, size)) stand (sym (append-nil (take c.args.place c.args.weights.now))) c.fill_corner.ensures
    ∙ ap (λ n. take c.args.place c.args.weights.now ++ first_corners k.d spans row (2 ^ n)) (sym none)
