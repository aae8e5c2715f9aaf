use Rattle.std.proofs.Common.{rules, [], ◌∷◌, ◌*ℤ◌, ◌∙◌, refl, sym, w64, to_z-of_z, SFits, arith}
use Rattle.lift_model.specs.Links.{place}
use Rattle.corner_lift.proofs.RowRead.{row_read}
use Rattle.corner_lift.specs.Certificate.{mark, ranked_below}
use Rattle.corner_lift.proofs.PairedRows as paired
use Rattle.corner_lift.proofs.paired.PairTable.least_into_of.Goals as goal

pub is_below-first-requires : goal.is_below-first-requires
is_below-first-requires g c =
    let k = c.args.case.now in
    let row = row_read c.premises.ensures k c.args.links.now g.spans c.args.self.now c.args.s 0 c.w-w.ensures.case c.requires.0.0 (place c.args.links.now c.args.s 0) refl (c.args.row.first ∷ c.args.row.second ∷ []) (sym c.requires.1.targets) in
    omega (arith, row.inside 0 0 (omega arith), c.requires.0.1)

pub is_below-second-requires : goal.is_below-second-requires
is_below-second-requires g c =
    let k = c.args.case.now in
    let row = row_read c.premises.ensures k c.args.links.now g.spans c.args.self.now c.args.s 0 c.w-w.ensures.case c.requires.0.0 (place c.args.links.now c.args.s 0) refl (c.args.row.first ∷ c.args.row.second ∷ []) (sym c.requires.1.targets) in
    omega (arith, row.inside 1 0 (omega arith), c.requires.0.1)

pub counted_sum-sum-requires-clause-corners : goal.counted_sum-sum-requires-clause-corners
counted_sum-sum-requires-clause-corners g c =
    let k = c.args.case.now in
    let row = row_read c.premises.ensures k c.args.links.now g.spans c.args.self.now c.args.s 0 c.w-w.ensures.case c.requires.0.0 (place c.args.links.now c.args.s 0) refl (c.args.row.first ∷ c.args.row.second ∷ []) (sym c.requires.1.targets) in
    let at = c.in_ok-pair.ensures.place.0 ∙ sym c.requires.1.weights in
    let corners = c.in_ok-pair.ensures.place.1 ∙ sym c.requires.1.corners in
    paired.corners_are k g.spans c.args.self.now c.args.s 0 (place c.args.links.now c.args.s 0) (c.args.row.first ∷ c.args.row.second ∷ []) row refl c.in_ok-pair.pair at corners c.in_ok-pair.ensures.pair

pub counted_sum-sum-requires-clause-room : goal.counted_sum-sum-requires-clause-room
counted_sum-sum-requires-clause-room g c =
    let k = c.args.case.now in
    let row = row_read c.premises.ensures k c.args.links.now g.spans c.args.self.now c.args.s 0 c.w-w.ensures.case c.requires.0.0 (place c.args.links.now c.args.s 0) refl (c.args.row.first ∷ c.args.row.second ∷ []) (sym c.requires.1.targets) in
    let at = c.in_ok-pair.ensures.place.0 ∙ sym c.requires.1.weights in
    let corners = c.in_ok-pair.ensures.place.1 ∙ sym c.requires.1.corners in
    let short = rw c.w-w.ensures.value at c.in_ok-pair.ensures.short in
    paired.lane_whole k.w c.in_ok-pair.pair.whole (omega (arith, c.w-w.ensures.case.asked.precision.1)) (paired.positive k g.spans c.args.self.now c.args.s 0 (place c.args.links.now c.args.s 0) (c.args.row.first ∷ c.args.row.second ∷ []) row refl c.in_ok-pair.pair at corners c.in_ok-pair.ensures.pair) short

pub returns-clause-least : goal.returns-clause-least
returns-clause-least g c =
    let k = c.args.case.now in
    let row = row_read c.premises.ensures k c.args.links.now g.spans c.args.self.now c.args.s 0 c.w-w.ensures.case c.requires.0.0 (place c.args.links.now c.args.s 0) refl (c.args.row.first ∷ c.args.row.second ∷ []) (sym c.requires.1.targets) in
    let at = c.in_ok-pair.ensures.place.0 ∙ sym c.requires.1.weights in
    let corners = c.in_ok-pair.ensures.place.1 ∙ sym c.requires.1.corners in
    let fits : SFits w64 c.counted_sum-sum.result = search rules in
    rw (c.summed.ensures.sum, c.summed.ensures.whole.1, to_z-of_z fits) (paired.least k g.spans c.args.self.now c.args.s 0 (place c.args.links.now c.args.s 0) (c.args.row.first ∷ c.args.row.second ∷ []) row refl c.in_ok-pair.pair at corners c.in_ok-pair.ensures.pair (ranked_below (mark c.args.ranks.now) c.args.below) (c.counted_sum-sum.result *ℤ c.in_ok-pair.pair.scale) (rw (c.is_below-first.ensures, c.is_below-second.ensures) at c.counted_sum-sum.ensures))

pub returns-clause-whole : goal.returns-clause-whole
returns-clause-whole g c =
    let k = c.args.case.now in
    let row = row_read c.premises.ensures k c.args.links.now g.spans c.args.self.now c.args.s 0 c.w-w.ensures.case c.requires.0.0 (place c.args.links.now c.args.s 0) refl (c.args.row.first ∷ c.args.row.second ∷ []) (sym c.requires.1.targets) in
    let at = c.in_ok-pair.ensures.place.0 ∙ sym c.requires.1.weights in
    let corners = c.in_ok-pair.ensures.place.1 ∙ sym c.requires.1.corners in
    rw (c.summed.ensures.whole.0, c.summed.ensures.whole.1) (paired.wholes k g.spans c.args.self.now c.args.s 0 (place c.args.links.now c.args.s 0) (c.args.row.first ∷ c.args.row.second ∷ []) row refl c.in_ok-pair.pair at corners c.in_ok-pair.ensures.pair)
