use Rattle.std.proofs.Common.{rules, ◌==◌, ◌∙◌, to_z-of_z, SFits, ap, arith}
use Rattle.std.proofs.lemmas.Int.{ints}
use mir.Syntax.{w128}
use Rattle.corner_lift.specs.Case.{number}
use Rattle.corner_lift.specs.Dot.{total, only_at}
use Rattle.corner_lift.proofs.PairSums.{counted_range}
use Rattle.corner_lift.proofs.corner_table.CornerTable.corner.Goals as goal

pub total_of-whole-requires-clause-room : goal.total_of-whole-requires-clause-room
total_of-whole-requires-clause-room g c =
    let row = c.row-row.ensures.row in
    rw (c.corner_of.ensures, row.totals 0 (omega (arith, row.some))) (omega (arith, ints, row.whole.size))

-- ---- the corner

pub sum_of-sum-requires-clause-room : goal.sum_of-sum-requires-clause-room
sum_of-sum-requires-clause-room g c =
    let row = c.row-row.ensures.row in
    rw c.corner_of-part.ensures ((row.can_compare c.args.vec.now c.requires.1.1.1).sums c.args.corner
    (omega (arith, c.requires.1.1.0, row.corners)))

pub sum_of-sum-requires-clause-lane : goal.sum_of-sum-requires-clause-lane
sum_of-sum-requires-clause-lane g c = λ narrow.
    let row = c.row-row.ensures.row in
    let fits : SFits w128 c.total_of-whole.result = search rules in
    let whole = to_z-of_z fits ∙ c.total_of-whole.ensures ∙ ap total c.corner_of.ensures ∙ row.totals 0 (omega (arith, row.some)) in
    rw c.corner_of-part.ensures (row.lane c.args.vec.now c.requires.1.1.1
    (rw (whole, c.row-row.ensures.w) at (c.is_narrow-narrow.ensures narrow)) c.args.corner (omega (arith, c.requires.1.1.0, row.corners)))

pub sum_at-own-requires : goal.sum_at-own-requires
sum_at-own-requires g c =
    let row = c.row-row.ensures.row in
    rw c.corner_of-part.ensures (row.can_sum c.args.corner (omega (arith, c.requires.1.1.0, row.corners)) (only_at c.args.s)
    (λ t. counted_range (t == c.args.s)))

pub returns-clause-sum : goal.returns-clause-sum
returns-clause-sum g c =
    let row = c.row-row.ensures.row in
    let fits : SFits w128 c.sum_of-sum.result = search rules in
    to_z-of_z fits ∙ (rw c.corner_of-part.ensures at c.sum_of-sum.ensures)
    ∙ row.sums c.args.corner (omega (arith, c.requires.1.1.0, row.corners)) (number c.args.vec.now)

pub returns-clause-whole : goal.returns-clause-whole
returns-clause-whole g c =
    let row = c.row-row.ensures.row in
    let fits : SFits w128 c.total_of-whole.result = search rules in
    rw (to_z-of_z fits, c.total_of-whole.ensures, c.corner_of.ensures, row.totals 0 (omega (arith, row.some))) row.whole

pub returns-clause-own : goal.returns-clause-own
returns-clause-own g c =
    let row = c.row-row.ensures.row in
    let fits : SFits w128 c.sum_at-own.result = search rules in
    to_z-of_z fits ∙ (rw c.corner_of-part.ensures at c.sum_at-own.ensures)
    ∙ row.sums c.args.corner (omega (arith, c.requires.1.1.0, row.corners)) (only_at c.args.s)
