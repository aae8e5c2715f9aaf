use Rattle.std.proofs.Common.{rules, ◌*ℤ◌, pos, slice_index_or, w64, to_z-of_z, SFits, arith}
use Rattle.corner_lift.specs.Case.{number, IsGreatest, row_value, corner_count}
use Rattle.corner_lift.proofs.Reading.{above}
use Rattle.corner_lift.proofs.Rows.{number_range}
use Rattle.corner_lift.proofs.PairedRows as paired
use Rattle.corner_lift.proofs.lifted.Lifted.greatest.Goals as goal
use Rattle.corner_lift.proofs.lifted.Lifted.greatest.Goals.{After-summed}

pub bounds-vec-row-2 : goal.bounds-vec-row-2
bounds-vec-row-2 g c =
    let row = rw (c.row-row.ensures.weights, c.table.ensures, ← c.self.view_is) at c.row-row.ensures.row in
    omega (arith, row.inside 1 0 (omega (arith, c.if-row-ne2.false)), (rw (← c.self.view_is) at c.requires.1.1).size)

pub greatest_sum-sum-requires-clause-corners : goal.greatest_sum-sum-requires-clause-corners
greatest_sum-sum-requires-clause-corners g c =
    let row = rw (c.row-row.ensures.weights, c.table.ensures, ← c.self.view_is) at c.row-row.ensures.row in
    paired.corners_are c.self.inside.case.now g.spans c.self.inside.pairs c.args.s c.args.a c.row-row.result.place
    c.row-row.result.targets.now row c.if-row-ne2.false c.in_ok-pair.pair c.in_ok-pair.ensures.place.0 c.in_ok-pair.ensures.place.1
    c.in_ok-pair.ensures.pair

pub greatest_sum-sum-requires-clause-first : goal.greatest_sum-sum-requires-clause-first
greatest_sum-sum-requires-clause-first g c =
    let row = rw (c.row-row.ensures.weights, c.table.ensures, ← c.self.view_is) at c.row-row.ensures.row in
    let fits : SFits w64 (slice_index_or c.args.vec.now (slice_index_or c.row-row.result.targets.now 0 0) (pos 0)) = search rules in
    let short = rw (c.row-row.ensures.w, c.table.ensures, ← c.self.view_is) at c.in_ok-pair.ensures.short in
    rw (to_z-of_z fits) (paired.lane_number c.self.inside.case.now.w c.in_ok-pair.pair.whole
    (omega (arith, c.self.invariant.case.asked.precision.1))
    (paired.positive c.self.inside.case.now g.spans c.self.inside.pairs c.args.s c.args.a c.row-row.result.place
    c.row-row.result.targets.now row c.if-row-ne2.false c.in_ok-pair.pair c.in_ok-pair.ensures.place.0 c.in_ok-pair.ensures.place.1
    c.in_ok-pair.ensures.pair) short _ (number_range c.self.inside.case.now c.args.vec.now (rw (← c.self.view_is) at c.requires.1.1) _))

pub greatest_sum-sum-requires-clause-second : goal.greatest_sum-sum-requires-clause-second
greatest_sum-sum-requires-clause-second g c =
    let row = rw (c.row-row.ensures.weights, c.table.ensures, ← c.self.view_is) at c.row-row.ensures.row in
    let fits : SFits w64 (slice_index_or c.args.vec.now (slice_index_or c.row-row.result.targets.now 1 0) (pos 0)) = search rules in
    let short = rw (c.row-row.ensures.w, c.table.ensures, ← c.self.view_is) at c.in_ok-pair.ensures.short in
    rw (to_z-of_z fits) (paired.lane_number c.self.inside.case.now.w c.in_ok-pair.pair.whole
    (omega (arith, c.self.invariant.case.asked.precision.1))
    (paired.positive c.self.inside.case.now g.spans c.self.inside.pairs c.args.s c.args.a c.row-row.result.place
    c.row-row.result.targets.now row c.if-row-ne2.false c.in_ok-pair.pair c.in_ok-pair.ensures.place.0 c.in_ok-pair.ensures.place.1
    c.in_ok-pair.ensures.pair) short _ (number_range c.self.inside.case.now c.args.vec.now (rw (← c.self.view_is) at c.requires.1.1) _))

-- of all corners
of_all : (g : _) (c : After-summed g) → IsGreatest (row_value c.self.inside.case.now g.spans c.args.s c.args.a c.args.vec.now)
    (corner_count c.self.inside.case.now c.args.s c.args.a) (c.summed.result.sum *ℤ c.summed.result.scale)
of_all g c =
    let row = rw (c.row-row.ensures.weights, c.table.ensures, ← c.self.view_is) at c.row-row.ensures.row in
    let one : SFits w64 (slice_index_or c.args.vec.now (slice_index_or c.row-row.result.targets.now 0 0) (pos 0)) = search rules in
    let two : SFits w64 (slice_index_or c.args.vec.now (slice_index_or c.row-row.result.targets.now 1 0) (pos 0)) = search rules in
    let fits : SFits w64 c.greatest_sum-sum.result = search rules in
    rw (c.summed.ensures.sum, c.summed.ensures.whole.1, to_z-of_z fits)
    (paired.greatest c.self.inside.case.now g.spans c.self.inside.pairs c.args.s c.args.a c.row-row.result.place
    c.row-row.result.targets.now row c.if-row-ne2.false c.in_ok-pair.pair c.in_ok-pair.ensures.place.0 c.in_ok-pair.ensures.place.1
    c.in_ok-pair.ensures.pair (number c.args.vec.now) (c.greatest_sum-sum.result *ℤ c.in_ok-pair.pair.scale)
    (rw (to_z-of_z one, to_z-of_z two) at c.greatest_sum-sum.ensures))

pub returns-clause-greatest : goal.returns-clause-greatest
returns-clause-greatest g c = rw (← c.self.view_is) (of_all g c)

pub returns-clause-bound : goal.returns-clause-bound
returns-clause-bound g c = rw (← c.self.view_is)
    (above c.premises.ensures c.self.inside.case.now c.args.s c.args.a g.spans c.args.vec.now c.self.invariant.case
    (rw (← c.self.view_is) at c.requires.0).inside (c.summed.result.sum *ℤ c.summed.result.scale) (of_all g c))

pub returns-clause-whole : goal.returns-clause-whole
returns-clause-whole g c =
    let row = rw (c.row-row.ensures.weights, c.table.ensures, ← c.self.view_is) at c.row-row.ensures.row in
    rw (← c.self.view_is, c.summed.ensures.whole.0, c.summed.ensures.whole.1)
    (paired.wholes c.self.inside.case.now g.spans c.self.inside.pairs c.args.s c.args.a c.row-row.result.place c.row-row.result.targets.now
    row c.if-row-ne2.false c.in_ok-pair.pair c.in_ok-pair.ensures.place.0 c.in_ok-pair.ensures.place.1 c.in_ok-pair.ensures.pair)
