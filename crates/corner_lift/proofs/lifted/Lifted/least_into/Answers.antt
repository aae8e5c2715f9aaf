use Rattle.std.proofs.Common.{rules, ◌*ℤ◌, w64, to_z-of_z, SFits, arith}
use Rattle.corner_lift.specs.Certificate.{mark, ranked_below}
use Rattle.corner_lift.proofs.PairedRows as paired
use Rattle.corner_lift.proofs.lifted.Lifted.least_into.Goals as goal

pub counted_sum-sum-requires-clause-corners : goal.counted_sum-sum-requires-clause-corners
counted_sum-sum-requires-clause-corners g c =
    let row = rw (c.row-row.ensures.weights, c.table.ensures, ← c.self.view_is) at c.row-row.ensures.row in
    paired.corners_are c.self.inside.case.now g.spans c.self.inside.pairs c.args.s c.args.a c.row-row.result.place
    c.row-row.result.targets.now row c.if-row-ne2.false c.in_ok-pair.pair c.in_ok-pair.ensures.place.0 c.in_ok-pair.ensures.place.1
    c.in_ok-pair.ensures.pair

pub counted_sum-sum-requires-clause-room : goal.counted_sum-sum-requires-clause-room
counted_sum-sum-requires-clause-room g c =
    let row = rw (c.row-row.ensures.weights, c.table.ensures, ← c.self.view_is) at c.row-row.ensures.row in
    let short = rw (c.row-row.ensures.w, c.table.ensures, ← c.self.view_is) at c.in_ok-pair.ensures.short in
    paired.lane_whole c.self.inside.case.now.w c.in_ok-pair.pair.whole (omega (arith, c.self.invariant.case.asked.precision.1))
    (paired.positive c.self.inside.case.now g.spans c.self.inside.pairs c.args.s c.args.a c.row-row.result.place
    c.row-row.result.targets.now row c.if-row-ne2.false c.in_ok-pair.pair c.in_ok-pair.ensures.place.0 c.in_ok-pair.ensures.place.1
    c.in_ok-pair.ensures.pair) short

pub returns-clause-least : goal.returns-clause-least
returns-clause-least g c =
    let row = rw (c.row-row.ensures.weights, c.table.ensures, ← c.self.view_is) at c.row-row.ensures.row in
    let fits : SFits w64 c.counted_sum-sum.result = search rules in
    rw (← c.self.view_is, c.summed.ensures.sum, c.summed.ensures.whole.1, to_z-of_z fits)
    (paired.least c.self.inside.case.now g.spans c.self.inside.pairs c.args.s c.args.a c.row-row.result.place c.row-row.result.targets.now
    row c.if-row-ne2.false c.in_ok-pair.pair c.in_ok-pair.ensures.place.0 c.in_ok-pair.ensures.place.1 c.in_ok-pair.ensures.pair
    (ranked_below (mark c.args.ranks.now) c.args.below) (c.counted_sum-sum.result *ℤ c.in_ok-pair.pair.scale)
    (rw (c.is_below-first.ensures, c.is_below-second.ensures) at c.counted_sum-sum.ensures))

pub returns-clause-whole : goal.returns-clause-whole
returns-clause-whole g c =
    let row = rw (c.row-row.ensures.weights, c.table.ensures, ← c.self.view_is) at c.row-row.ensures.row in
    rw (← c.self.view_is, c.summed.ensures.whole.0, c.summed.ensures.whole.1)
    (paired.wholes c.self.inside.case.now g.spans c.self.inside.pairs c.args.s c.args.a c.row-row.result.place c.row-row.result.targets.now
    row c.if-row-ne2.false c.in_ok-pair.pair c.in_ok-pair.ensures.place.0 c.in_ok-pair.ensures.place.1 c.in_ok-pair.ensures.pair)
