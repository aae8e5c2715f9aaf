use Rattle.std.proofs.Common.{rules, ◌^◌, ◌*ℤ◌, pos, unsigned_abs, slice_index_or, w64, to_z-of_z, SFits, ap, ap₂, ◌∙◌, arith}
use Rattle.std.proofs.lemmas.Int.{ints}
use mir.Syntax.{w128}
use Rattle.corner_lift.specs.Dot.{total}
use Rattle.corner_lift.proofs.ReadRows as rows
use Rattle.corner_lift.proofs.corner_table.CornerTable.is_capped.Goals as goal

pub returns-then-are_at_most : goal.returns-then-are_at_most
returns-then-are_at_most g c =
    let all = rw (to_z-of_z c.ranges.number) at (c.are_at_most.ensures c.if-are_at_most.true) in
    rows.granted (rows.most_by_targets c.args.self.now.case g.spans c.row-row.result.weights.now c.args.s c.args.a c.row-row.result.place
    c.row-row.result.targets.now c.row-row.ensures.row c.rows_at_corners.ensures.parameters c.requires.0.inside c.requires.1.0
    c.rows_at_corners.ensures.most c.args.vec.now c.args.number all)

pub is_pair_capped-requires-clause-pairs : goal.is_pair_capped-requires-clause-pairs
is_pair_capped-requires-clause-pairs g c = rw c.row-row.ensures.w
    (rows.pairs c.args.self.now.case g.spans c.row-row.result.weights.now c.args.s c.args.a c.row-row.result.place
    c.row-row.result.targets.now c.row-row.ensures.row c.if-row-eq2.true c.block_of.result.now c.block_of.ensures)

pub is_pair_capped-requires-clause-numbers : goal.is_pair_capped-requires-clause-numbers
is_pair_capped-requires-clause-numbers g c =
    let k = c.args.self.now.case in
    let x = c.args.vec.now in
    let one : SFits w64 (slice_index_or x (slice_index_or c.row-row.result.targets.now 0 0) (pos 0)) = search rules in
    let two : SFits w64 (slice_index_or x (slice_index_or c.row-row.result.targets.now 1 0) (pos 0)) = search rules in
    rw (c.row-row.ensures.w, to_z-of_z one, to_z-of_z two, to_z-of_z c.ranges.number) (
      rows.number_size k x c.requires.1.1.0 _,
      (rows.number_size k x c.requires.1.1.0 _, rows.in_range c.args.number (2 ^ k.w) c.requires.1.1.1.0 c.requires.1.1.1.1),
    )

pub returns-then-row-eq2 : goal.returns-then-row-eq2
returns-then-row-eq2 g c =
    let k = c.args.self.now.case in
    let x = c.args.vec.now in
    let one : SFits w64 (slice_index_or x (slice_index_or c.row-row.result.targets.now 0 0) (pos 0)) = search rules in
    let two : SFits w64 (slice_index_or x (slice_index_or c.row-row.result.targets.now 1 0) (pos 0)) = search rules in
    let test = rw (to_z-of_z one, to_z-of_z two, to_z-of_z c.ranges.number) at c.is_pair_capped.ensures in
    let same = rows.most_at_pairs k g.spans c.row-row.result.weights.now c.args.s c.args.a c.row-row.result.place
    c.row-row.result.targets.now c.row-row.ensures.row c.if-row-eq2.true c.block_of.result.now c.block_of.ensures x c.args.number in
    (λ is. same.0 (test.0 is), λ all. test.1 (same.1 all))

pub total_of-whole-requires-clause-room : goal.total_of-whole-requires-clause-room
total_of-whole-requires-clause-room g c =
    let row = c.row-row.ensures.row in
    rw (c.corner_of.ensures, row.totals 0 (omega (arith, row.some))) (omega (arith, ints, row.whole.size))

pub greatest_of-requires-clause-room : goal.greatest_of-requires-clause-room
greatest_of-requires-clause-room g c = c.row-row.ensures.row.can_compare c.args.vec.now c.requires.1.1.0

pub greatest_of-requires-clause-lane : goal.greatest_of-requires-clause-lane
greatest_of-requires-clause-lane g c = λ narrow.
    let row = c.row-row.ensures.row in
    let fits : SFits w128 c.total_of-whole.result = search rules in
    let whole = to_z-of_z fits ∙ c.total_of-whole.ensures ∙ ap total c.corner_of.ensures ∙ row.totals 0 (omega (arith, row.some)) in
    row.lane c.args.vec.now c.requires.1.1.0 (rw (whole, c.row-row.ensures.w) at (c.is_narrow-narrow.ensures narrow))

pub times-requires : goal.times-requires
times-requires g c =
    let row = c.row-row.ensures.row in
    let fits : SFits w128 c.total_of-whole.result = search rules in
    let whole = to_z-of_z fits ∙ c.total_of-whole.ensures ∙ ap total c.corner_of.ensures ∙ row.totals 0 (omega (arith, row.some)) in
    rw (whole, to_z-of_z c.ranges.number)
    (omega (
      arith,
      row.whole.room (unsigned_abs c.args.number)
          (rows.in_range c.args.number (2 ^ c.args.self.now.case.w) c.requires.1.1.1.0 c.requires.1.1.1.1),
    ))

pub returns : goal.returns
returns g c =
    let row = c.row-row.ensures.row in
    let fits : SFits w128 c.total_of-whole.result = search rules in
    let whole = to_z-of_z fits ∙ c.total_of-whole.ensures ∙ ap total c.corner_of.ensures ∙ row.totals 0 (omega (arith, row.some)) in
    let sum_fits : SFits w128 c.greatest_of.result = search rules in
    let product_fits : SFits w128 c.times.result = search rules in
    let product = to_z-of_z product_fits ∙ c.times.ensures ∙ ap₂ ◌*ℤ◌ whole (to_z-of_z c.ranges.number) in
    rows.most_tested c.args.self.now.case g.spans c.row-row.result.weights.now c.args.s c.args.a c.row-row.result.place
    c.row-row.result.targets.now row c.args.vec.now c.args.number c.greatest_of.result _ _ c.greatest_of.ensures (to_z-of_z sum_fits)
    product
