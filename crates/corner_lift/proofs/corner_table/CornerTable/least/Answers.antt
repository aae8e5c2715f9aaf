use Rattle.std.proofs.Common.{rules, ◌∙◌, pos, slice_index_or, w64, to_z, of_z, to_z-of_z, SFits, ap, arith}
use Rattle.std.proofs.lemmas.Int.{ints}
use mir.Syntax.{w128}
use Rattle.lift_model.specs.Model.{row_at}
use Rattle.corner_lift.specs.Corner.{corner_sum}
use Rattle.corner_lift.specs.Case.{number, IsLeast, row_value, corner_count}
use Rattle.corner_lift.specs.Dot.{dot, total, corner_part}
use Rattle.corner_lift.proofs.Sums.{least_same}
use Rattle.corner_lift.proofs.Reading.{beneath}
use Rattle.corner_lift.proofs.Rows.{number_range}
use Rattle.corner_lift.proofs.ReadRows as rows
use Rattle.corner_lift.proofs.corner_table.CornerTable.least.Goals as goal
use Rattle.corner_lift.proofs.corner_table.CornerTable.least.Goals.{After-least_pair, After-least_of-sum}

-- ---- two entries

pub least_pair-requires-clause-pairs : goal.least_pair-requires-clause-pairs
least_pair-requires-clause-pairs g c = rw c.row-row.ensures.w
    (rows.pairs c.args.self.now.case g.spans c.row-row.result.weights.now c.args.s c.args.a c.row-row.result.place
    c.row-row.result.targets.now c.row-row.ensures.row c.if-row-eq2.true c.block_of.result.now c.block_of.ensures)

pub least_pair-requires-clause-numbers : goal.least_pair-requires-clause-numbers
least_pair-requires-clause-numbers g c =
    let x = c.args.vec.now in
    let one : SFits w64 (slice_index_or x (slice_index_or c.row-row.result.targets.now 0 0) (pos 0)) = search rules in
    let two : SFits w64 (slice_index_or x (slice_index_or c.row-row.result.targets.now 1 0) (pos 0)) = search rules in
    rw (c.row-row.ensures.w, to_z-of_z one, to_z-of_z two)
    (number_range c.args.self.now.case x c.requires.1.1 _, number_range c.args.self.now.case x c.requires.1.1 _)

-- of all corners
of_pairs : (g : _) (c : After-least_pair g) → IsLeast (row_value c.args.self.now.case g.spans c.args.s c.args.a c.args.vec.now)
    (corner_count c.args.self.now.case c.args.s c.args.a) c.least_pair.result.sum
of_pairs g c =
    let x = c.args.vec.now in
    let one : SFits w64 (slice_index_or x (slice_index_or c.row-row.result.targets.now 0 0) (pos 0)) = search rules in
    let two : SFits w64 (slice_index_or x (slice_index_or c.row-row.result.targets.now 1 0) (pos 0)) = search rules in
    rows.least_of_row c.args.self.now.case g.spans c.row-row.result.weights.now c.args.s c.args.a c.row-row.result.place
    c.row-row.result.targets.now c.row-row.ensures.row c.if-row-eq2.true c.block_of.result.now c.block_of.ensures (number x)
    c.least_pair.result.sum (rw (to_z-of_z one, to_z-of_z two) at c.least_pair.ensures.sum)

pub returns-then-row-eq2-clause-least : goal.returns-then-row-eq2-clause-least
returns-then-row-eq2-clause-least g c = of_pairs g c

pub returns-then-row-eq2-clause-bound : goal.returns-then-row-eq2-clause-bound
returns-then-row-eq2-clause-bound g c = beneath c.premises.ensures c.args.self.now.case c.args.s c.args.a g.spans c.args.vec.now
    c.row-row.ensures.row.case c.requires.0.inside c.least_pair.result.sum (of_pairs g c)

pub returns-then-row-eq2-clause-whole : goal.returns-then-row-eq2-clause-whole
returns-then-row-eq2-clause-whole g c =
    rw (
      c.least_pair.ensures.whole,
      rows.pair_whole_is c.args.self.now.case g.spans c.row-row.result.weights.now c.args.s c.args.a c.row-row.result.place
          c.row-row.result.targets.now c.row-row.ensures.row c.if-row-eq2.true c.block_of.result.now c.block_of.ensures,
    )
    c.row-row.ensures.row.whole

-- ---- other rows

pub total_of-whole-requires-clause-room : goal.total_of-whole-requires-clause-room
total_of-whole-requires-clause-room g c =
    let row = c.row-row.ensures.row in
    rw (c.corner_of.ensures, row.totals 0 (omega (arith, row.some))) (omega (arith, ints, row.whole.size))

pub least_of-sum-requires-clause-room : goal.least_of-sum-requires-clause-room
least_of-sum-requires-clause-room g c = c.row-row.ensures.row.can_compare c.args.vec.now c.requires.1.1

pub least_of-sum-requires-clause-lane : goal.least_of-sum-requires-clause-lane
least_of-sum-requires-clause-lane g c = λ narrow.
    let row = c.row-row.ensures.row in
    let fits : SFits w128 c.total_of-whole.result = search rules in
    let whole = to_z-of_z fits ∙ c.total_of-whole.ensures ∙ ap total c.corner_of.ensures ∙ row.totals 0 (omega (arith, row.some)) in
    row.lane c.args.vec.now c.requires.1.1 (rw (whole, c.row-row.ensures.w) at (c.is_narrow-narrow.ensures narrow))

-- of all corners
of_all : (g : _) (c : After-least_of-sum g) → IsLeast (row_value c.args.self.now.case g.spans c.args.s c.args.a c.args.vec.now)
    (corner_count c.args.self.now.case c.args.s c.args.a) (to_z w128 (of_z w128 c.least_of-sum.result))
of_all g c =
    let row = c.row-row.ensures.row in
    let fits : SFits w128 c.least_of-sum.result = search rules in
    rw (to_z-of_z fits) (least_same
    (λ n. dot (number c.args.vec.now) (corner_part c.row-row.result.weights.now c.row-row.result.place n) c.row-row.result.targets.now)
    (λ n. corner_sum c.args.self.now.case.d g.spans (row_at c.args.self.now.case.model c.args.s c.args.a) n (number c.args.vec.now))
    c.row-row.result.place.corners (corner_count c.args.self.now.case c.args.s c.args.a) c.least_of-sum.result row.corners
    (λ n lt. row.sums n (omega (arith, lt, row.corners)) (number c.args.vec.now)) c.least_of-sum.ensures)

pub returns-clause-least : goal.returns-clause-least
returns-clause-least g c = of_all g c

pub returns-clause-bound : goal.returns-clause-bound
returns-clause-bound g c = beneath c.premises.ensures c.args.self.now.case c.args.s c.args.a g.spans c.args.vec.now
    c.row-row.ensures.row.case c.requires.0.inside (to_z w128 (of_z w128 c.least_of-sum.result)) (of_all g c)

pub returns-clause-whole : goal.returns-clause-whole
returns-clause-whole g c =
    let row = c.row-row.ensures.row in
    let fits : SFits w128 c.total_of-whole.result = search rules in
    rw (to_z-of_z fits, c.total_of-whole.ensures, c.corner_of.ensures, row.totals 0 (omega (arith, row.some))) row.whole
