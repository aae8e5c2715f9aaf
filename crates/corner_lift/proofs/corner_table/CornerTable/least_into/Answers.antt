use Rattle.std.proofs.Common.{rules, ℕ, ℤ, nat_lt, to_z-of_z, SFits, arith}
use Rattle.std.proofs.lemmas.Int.{ints}
use mir.Syntax.{w128}
use Rattle.lift_model.specs.Model.{row_at}
use Rattle.corner_lift.specs.Corner.{corner_sum}
use Rattle.corner_lift.specs.Certificate.{mark, ranked_below}
use Rattle.corner_lift.specs.Case.{corner_count}
use Rattle.corner_lift.specs.Dot.{dot, corner_part}
use Rattle.corner_lift.proofs.Sums.{least_same}
use Rattle.corner_lift.proofs.PairSums.{counted_range}
use Rattle.corner_lift.proofs.ReadRows as rows
use Rattle.corner_lift.proofs.corner_table.CornerTable.least_into.Goals as goal

pub total_of-whole-requires-clause-room : goal.total_of-whole-requires-clause-room
total_of-whole-requires-clause-room g c =
    let row = c.row-row.ensures.row in
    rw (c.corner_of.ensures, row.totals 0 (omega (arith, row.some))) (omega (arith, ints, row.whole.size))

pub least_below-sum-requires-clause-room : goal.least_below-sum-requires-clause-room
least_below-sum-requires-clause-room g c =
    let row = c.row-row.ensures.row in
    record {
      some = row.some;
      ends = row.ends;
      sums = λ n lt. row.can_sum n lt (ranked_below (mark c.args.ranks.now) c.args.below) (λ t. counted_range (nat_lt (mark c.args.ranks.now t) c.args.below));
    }

pub returns-clause-least : goal.returns-clause-least
returns-clause-least g c =
    let row = c.row-row.ensures.row in
    let fits : SFits w128 c.least_below-sum.result = search rules in
    let counts : ℕ → ℤ = ranked_below (mark c.args.ranks.now) c.args.below in
    rw (to_z-of_z fits) (least_same
    (λ n. dot counts (corner_part c.row-row.result.weights.now c.row-row.result.place n) c.row-row.result.targets.now)
    (λ n. corner_sum c.args.self.now.case.d g.spans (row_at c.args.self.now.case.model c.args.s c.args.a) n counts)
    c.row-row.result.place.corners (corner_count c.args.self.now.case c.args.s c.args.a) c.least_below-sum.result row.corners
    (λ n lt. row.sums n (omega (arith, lt, row.corners)) counts) c.least_below-sum.ensures)

pub returns-clause-whole : goal.returns-clause-whole
returns-clause-whole g c =
    let row = c.row-row.ensures.row in
    let fits : SFits w128 c.total_of-whole.result = search rules in
    rw (to_z-of_z fits, c.total_of-whole.ensures, c.corner_of.ensures, row.totals 0 (omega (arith, row.some))) row.whole

-- ---- two entries

pub least_pair_into-requires-clause-corners : goal.least_pair_into-requires-clause-corners
least_pair_into-requires-clause-corners g c =
    (rows.pairs c.args.self.now.case g.spans c.row-row.result.weights.now c.args.s c.args.a c.row-row.result.place
    c.row-row.result.targets.now c.row-row.ensures.row c.if-row-eq2.true c.block_of.result.now c.block_of.ensures).corners

pub least_pair_into-requires-clause-room : goal.least_pair_into-requires-clause-room
least_pair_into-requires-clause-room g c = rw
    (rows.pair_whole_is c.args.self.now.case g.spans c.row-row.result.weights.now c.args.s c.args.a c.row-row.result.place
    c.row-row.result.targets.now c.row-row.ensures.row c.if-row-eq2.true c.block_of.result.now c.block_of.ensures)
    c.row-row.ensures.row.whole.size

pub returns-then-row-eq2-clause-least : goal.returns-then-row-eq2-clause-least
returns-then-row-eq2-clause-least g c =
    rows.least_of_row c.args.self.now.case g.spans c.row-row.result.weights.now c.args.s c.args.a c.row-row.result.place
    c.row-row.result.targets.now c.row-row.ensures.row c.if-row-eq2.true c.block_of.result.now c.block_of.ensures
    (ranked_below (mark c.args.ranks.now) c.args.below) c.least_pair_into.result.sum
    (rw (c.is_below-first.ensures, c.is_below-second.ensures) at c.least_pair_into.ensures.sum)

pub returns-then-row-eq2-clause-whole : goal.returns-then-row-eq2-clause-whole
returns-then-row-eq2-clause-whole g c =
    rw (
      c.least_pair_into.ensures.whole,
      rows.pair_whole_is c.args.self.now.case g.spans c.row-row.result.weights.now c.args.s c.args.a c.row-row.result.place
          c.row-row.result.targets.now c.row-row.ensures.row c.if-row-eq2.true c.block_of.result.now c.block_of.ensures,
    )
    c.row-row.ensures.row.whole
