use Rattle.std.proofs.Common.{rules, [], ◌∷◌, ◌*ℤ◌, ◌∙◌, pos, refl, sym, slice_index_or, w64, to_z-of_z, SFits, arith}
use Rattle.lift_model.specs.Links.{place}
use Rattle.corner_lift.proofs.RowRead.{pair_read}
use Rattle.corner_lift.specs.Case.{number, IsLeast, row_value, corner_count}
use Rattle.corner_lift.proofs.Reading.{beneath}
use Rattle.corner_lift.proofs.Rows.{number_range}
use Rattle.corner_lift.proofs.PairedRows as paired
use Rattle.corner_lift.proofs.lifted.Lifted.least_of.Goals as goal
use Rattle.corner_lift.proofs.lifted.Lifted.least_of.Goals.{After-summed}

pub bounds-vec-row : goal.bounds-vec-row
bounds-vec-row g c =
    let k = c.self.inside.case.now in
    let pair = rw (← c.self.view_is) at c.requires.1.1.0 in
    let table = rw (← c.self.view_is) at c.requires.0 in
    let state = rw (← c.self.view_is) at c.requires.1.0 in
    let row = pair_read c.premises.ensures k c.self.inside.links.now g.spans c.self.inside.pairs c.args.s c.self.invariant.case
    c.self.invariant.links.laid table state c.args.row pair in
    omega (arith, row.inside 0 0 (omega arith), (rw (← c.self.view_is) at c.requires.1.1.1).size)

pub bounds-vec-row-2 : goal.bounds-vec-row-2
bounds-vec-row-2 g c =
    let k = c.self.inside.case.now in
    let pair = rw (← c.self.view_is) at c.requires.1.1.0 in
    let table = rw (← c.self.view_is) at c.requires.0 in
    let state = rw (← c.self.view_is) at c.requires.1.0 in
    let row = pair_read c.premises.ensures k c.self.inside.links.now g.spans c.self.inside.pairs c.args.s c.self.invariant.case
    c.self.invariant.links.laid table state c.args.row pair in
    omega (arith, row.inside 1 0 (omega arith), (rw (← c.self.view_is) at c.requires.1.1.1).size)

pub least_sum-sum-requires-clause-corners : goal.least_sum-sum-requires-clause-corners
least_sum-sum-requires-clause-corners g c =
    let k = c.self.inside.case.now in
    let pair = rw (← c.self.view_is) at c.requires.1.1.0 in
    let table = rw (← c.self.view_is) at c.requires.0 in
    let state = rw (← c.self.view_is) at c.requires.1.0 in
    let row = pair_read c.premises.ensures k c.self.inside.links.now g.spans c.self.inside.pairs c.args.s c.self.invariant.case
    c.self.invariant.links.laid table state c.args.row pair in
    let at = c.in_ok-pair.ensures.place.0 ∙ sym pair.weights in
    let corners = c.in_ok-pair.ensures.place.1 ∙ sym pair.corners in
    paired.corners_are k g.spans c.self.inside.pairs c.args.s 0 (place c.self.inside.links.now c.args.s 0)
    (c.args.row.first ∷ c.args.row.second ∷ []) row refl c.in_ok-pair.pair at corners c.in_ok-pair.ensures.pair

pub least_sum-sum-requires-clause-first : goal.least_sum-sum-requires-clause-first
least_sum-sum-requires-clause-first g c =
    let k = c.self.inside.case.now in
    let pair = rw (← c.self.view_is) at c.requires.1.1.0 in
    let table = rw (← c.self.view_is) at c.requires.0 in
    let state = rw (← c.self.view_is) at c.requires.1.0 in
    let row = pair_read c.premises.ensures k c.self.inside.links.now g.spans c.self.inside.pairs c.args.s c.self.invariant.case
    c.self.invariant.links.laid table state c.args.row pair in
    let at = c.in_ok-pair.ensures.place.0 ∙ sym pair.weights in
    let corners = c.in_ok-pair.ensures.place.1 ∙ sym pair.corners in
    let fits : SFits w64 (slice_index_or c.args.vec.now c.args.row.first (pos 0)) = search rules in
    let short = rw c.w-w.ensures.value at c.in_ok-pair.ensures.short in
    rw (to_z-of_z fits) (paired.lane_number k.w c.in_ok-pair.pair.whole (omega (arith, c.self.invariant.case.asked.precision.1))
    (paired.positive k g.spans c.self.inside.pairs c.args.s 0 (place c.self.inside.links.now c.args.s 0)
    (c.args.row.first ∷ c.args.row.second ∷ []) row refl c.in_ok-pair.pair at corners c.in_ok-pair.ensures.pair) short _
    (number_range k c.args.vec.now (rw (← c.self.view_is) at c.requires.1.1.1) _))

pub least_sum-sum-requires-clause-second : goal.least_sum-sum-requires-clause-second
least_sum-sum-requires-clause-second g c =
    let k = c.self.inside.case.now in
    let pair = rw (← c.self.view_is) at c.requires.1.1.0 in
    let table = rw (← c.self.view_is) at c.requires.0 in
    let state = rw (← c.self.view_is) at c.requires.1.0 in
    let row = pair_read c.premises.ensures k c.self.inside.links.now g.spans c.self.inside.pairs c.args.s c.self.invariant.case
    c.self.invariant.links.laid table state c.args.row pair in
    let at = c.in_ok-pair.ensures.place.0 ∙ sym pair.weights in
    let corners = c.in_ok-pair.ensures.place.1 ∙ sym pair.corners in
    let fits : SFits w64 (slice_index_or c.args.vec.now c.args.row.second (pos 0)) = search rules in
    let short = rw c.w-w.ensures.value at c.in_ok-pair.ensures.short in
    rw (to_z-of_z fits) (paired.lane_number k.w c.in_ok-pair.pair.whole (omega (arith, c.self.invariant.case.asked.precision.1))
    (paired.positive k g.spans c.self.inside.pairs c.args.s 0 (place c.self.inside.links.now c.args.s 0)
    (c.args.row.first ∷ c.args.row.second ∷ []) row refl c.in_ok-pair.pair at corners c.in_ok-pair.ensures.pair) short _
    (number_range k c.args.vec.now (rw (← c.self.view_is) at c.requires.1.1.1) _))

-- of all corners
of_all : (g : _) (c : After-summed g) → IsLeast (row_value c.self.inside.case.now g.spans c.args.s 0 c.args.vec.now)
    (corner_count c.self.inside.case.now c.args.s 0) (c.summed.result.sum *ℤ c.summed.result.scale)
of_all g c =
    let k = c.self.inside.case.now in
    let pair = rw (← c.self.view_is) at c.requires.1.1.0 in
    let table = rw (← c.self.view_is) at c.requires.0 in
    let state = rw (← c.self.view_is) at c.requires.1.0 in
    let row = pair_read c.premises.ensures k c.self.inside.links.now g.spans c.self.inside.pairs c.args.s c.self.invariant.case
    c.self.invariant.links.laid table state c.args.row pair in
    let at = c.in_ok-pair.ensures.place.0 ∙ sym pair.weights in
    let corners = c.in_ok-pair.ensures.place.1 ∙ sym pair.corners in
    let one : SFits w64 (slice_index_or c.args.vec.now c.args.row.first (pos 0)) = search rules in
    let two : SFits w64 (slice_index_or c.args.vec.now c.args.row.second (pos 0)) = search rules in
    let fits : SFits w64 c.least_sum-sum.result = search rules in
    rw (c.summed.ensures.sum, c.summed.ensures.whole.1, to_z-of_z fits)
    (paired.least k g.spans c.self.inside.pairs c.args.s 0 (place c.self.inside.links.now c.args.s 0)
    (c.args.row.first ∷ c.args.row.second ∷ []) row refl c.in_ok-pair.pair at corners c.in_ok-pair.ensures.pair (number c.args.vec.now)
    (c.least_sum-sum.result *ℤ c.in_ok-pair.pair.scale) (rw (to_z-of_z one, to_z-of_z two) at c.least_sum-sum.ensures))

pub returns-clause-least : goal.returns-clause-least
returns-clause-least g c = rw (← c.self.view_is) (of_all g c)

pub returns-clause-bound : goal.returns-clause-bound
returns-clause-bound g c = rw (← c.self.view_is)
    (beneath c.premises.ensures c.self.inside.case.now c.args.s 0 g.spans c.args.vec.now c.self.invariant.case
    (rw (← c.self.view_is) at c.requires.0).inside (c.summed.result.sum *ℤ c.summed.result.scale) (of_all g c))

pub returns-clause-whole : goal.returns-clause-whole
returns-clause-whole g c =
    let k = c.self.inside.case.now in
    let pair = rw (← c.self.view_is) at c.requires.1.1.0 in
    let table = rw (← c.self.view_is) at c.requires.0 in
    let state = rw (← c.self.view_is) at c.requires.1.0 in
    let row = pair_read c.premises.ensures k c.self.inside.links.now g.spans c.self.inside.pairs c.args.s c.self.invariant.case
    c.self.invariant.links.laid table state c.args.row pair in
    let at = c.in_ok-pair.ensures.place.0 ∙ sym pair.weights in
    let corners = c.in_ok-pair.ensures.place.1 ∙ sym pair.corners in
    rw (← c.self.view_is, c.summed.ensures.whole.0, c.summed.ensures.whole.1)
    (paired.wholes k g.spans c.self.inside.pairs c.args.s 0 (place c.self.inside.links.now c.args.s 0)
    (c.args.row.first ∷ c.args.row.second ∷ []) row refl c.in_ok-pair.pair at corners c.in_ok-pair.ensures.pair)
