use Rattle.std.proofs.Common.{rules, ◌≡◌, ◌≤◌, ◌^◌, pos, ◌-ℤ◌, ◌*ℤ◌, unsigned_abs, SFits, w64, to_z, of_z, to_z-of_z, ap, ◌∙◌, arith}
use mir.Syntax.{w128}
use Rattle.std.proofs.lemmas.Int.{ints}
use Rattle.lift_poly.proofs.Ring.{linear, le_from_test}
use Rattle.float_guess.specs.Reward.{reward}
use Rattle.rounded_iter.specs.Priced.{price}
use Rattle.rounded_iter.proofs.Solving.{laws_of, read_product, lt_from_test}
use Rattle.rounded_iter.proofs.Pricing.{dear_beyond, paid_by, beyond_by}
use Rattle.rounded_iter.proofs.priced.pays_choice.Goals as goal

pub returns-in_default-clause-beyond : goal.returns-in_default-clause-beyond
returns-in_default-clause-beyond g c =
    let k = c.args.rows.now.case in
    let top_fits : SFits w64 c.one_at.result = search rules in
    let top : c.one_at.result ≡ pos (2 ^ k.w) = c.one_at.ensures ∙ ap (λ w. pos (2 ^ w)) c.w-w.ensures.value in
    let cost : pos c.of.result ≡ price k.w c.args.rewards.now c.args.s = ap pos (c.of.ensures ∙ ap (λ w. reward w c.args.rewards.now.costs.now c.args.rewards.now.cap c.args.s) c.w-w.ensures.value) in
    let large = rw (to_z-of_z top_fits) at c.in_default.ensures.none in
    λ e. dear_beyond (laws_of c.rows_at_corners.ensures.parameters c.rows_at_corners.ensures.numbers c.rows_at_corners.ensures.range c.rows_at_corners.ensures.rise c.corners_bound_weights.ensures.sum) k g.spans c.w-w.ensures.case c.requires.0.inside c.args.s c.args.a c.requires.1.0 c.args.lane.now c.requires.1.1 (price k.w c.args.rewards.now) (omega (arith, linear, large, top, cost))

pub times-requires : goal.times-requires
times-requires g c =
    let k = c.args.rows.now.case in
    let top_fits : SFits w64 c.one_at.result = search rules in
    let top : c.one_at.result ≡ pos (2 ^ k.w) = c.one_at.ensures ∙ ap (λ w. pos (2 ^ w)) c.w-w.ensures.value in
    let cost : pos c.of.result ≡ price k.w c.args.rewards.now c.args.s = ap pos (c.of.ensures ∙ ap (λ w. reward w c.args.rewards.now.costs.now c.args.rewards.now.cap c.args.s) c.w-w.ensures.value) in
    let left = rw (to_z-of_z top_fits) at c.in-Some.ensures.left.0 in
    let left_fits : SFits w64 c.in-Some.left = search rules in
    let whole_fits : SFits w128 c.table_greatest-sum.result.whole = search rules in
    let small : unsigned_abs c.in-Some.left ≤ 2 ^ k.w = omega (arith, ints, left, top, c.in-Some.ensures.left.1) in
    record { room = rw (to_z-of_z left_fits, to_z-of_z whole_fits) (c.table_greatest-sum.ensures.whole.room (unsigned_abs c.in-Some.left) small) }

pub returns-clause-paid : goal.returns-clause-paid
returns-clause-paid g c =
    let k = c.args.rows.now.case in
    let top_fits : SFits w64 c.one_at.result = search rules in
    let top : c.one_at.result ≡ pos (2 ^ k.w) = c.one_at.ensures ∙ ap (λ w. pos (2 ^ w)) c.w-w.ensures.value in
    let cost : pos c.of.result ≡ price k.w c.args.rewards.now c.args.s = ap pos (c.of.ensures ∙ ap (λ w. reward w c.args.rewards.now.costs.now c.args.rewards.now.cap c.args.s) c.w-w.ensures.value) in
    let left = rw (to_z-of_z top_fits) at c.in-Some.ensures.left.0 in
    let same : c.in-Some.left ≡ pos (2 ^ k.w) -ℤ price k.w c.args.rewards.now c.args.s = omega (arith, linear, left, top, cost) in
    let left_fits : SFits w64 c.in-Some.left = search rules in
    let whole_fits : SFits w128 c.table_greatest-sum.result.whole = search rules in
    let sum_fits : SFits w128 c.table_greatest-sum.result.sum = search rules in
    let product_fits : SFits w128 c.times.result = search rules in
    let product = read_product c.in-Some.left c.table_greatest-sum.result.whole c.times.result left_fits whole_fits product_fits c.times.ensures in
    let whole = ap (λ n. c.in-Some.left *ℤ n) c.table_greatest-sum.ensures.whole.value in
    λ e. paid_by (laws_of c.rows_at_corners.ensures.parameters c.rows_at_corners.ensures.numbers c.rows_at_corners.ensures.range c.rows_at_corners.ensures.rise c.corners_bound_weights.ensures.sum) k g.spans c.w-w.ensures.case c.requires.0.inside c.args.s c.args.a c.requires.1.0 c.args.lane.now c.requires.1.1 (price k.w c.args.rewards.now) c.table_greatest-sum.result.sum c.in-Some.left c.table_greatest-sum.ensures.greatest same
    (omega (arith, linear, to_z-of_z sum_fits, product, whole, le_from_test (to_z w128 (of_z w128 c.table_greatest-sum.result.sum)) (to_z w128 (of_z w128 c.times.result)) e))

pub returns-clause-beyond : goal.returns-clause-beyond
returns-clause-beyond g c =
    let k = c.args.rows.now.case in
    let top_fits : SFits w64 c.one_at.result = search rules in
    let top : c.one_at.result ≡ pos (2 ^ k.w) = c.one_at.ensures ∙ ap (λ w. pos (2 ^ w)) c.w-w.ensures.value in
    let cost : pos c.of.result ≡ price k.w c.args.rewards.now c.args.s = ap pos (c.of.ensures ∙ ap (λ w. reward w c.args.rewards.now.costs.now c.args.rewards.now.cap c.args.s) c.w-w.ensures.value) in
    let left = rw (to_z-of_z top_fits) at c.in-Some.ensures.left.0 in
    let same : c.in-Some.left ≡ pos (2 ^ k.w) -ℤ price k.w c.args.rewards.now c.args.s = omega (arith, linear, left, top, cost) in
    let left_fits : SFits w64 c.in-Some.left = search rules in
    let whole_fits : SFits w128 c.table_greatest-sum.result.whole = search rules in
    let sum_fits : SFits w128 c.table_greatest-sum.result.sum = search rules in
    let product_fits : SFits w128 c.times.result = search rules in
    let product = read_product c.in-Some.left c.table_greatest-sum.result.whole c.times.result left_fits whole_fits product_fits c.times.ensures in
    let whole = ap (λ n. c.in-Some.left *ℤ n) c.table_greatest-sum.ensures.whole.value in
    λ e. beyond_by (laws_of c.rows_at_corners.ensures.parameters c.rows_at_corners.ensures.numbers c.rows_at_corners.ensures.range c.rows_at_corners.ensures.rise c.corners_bound_weights.ensures.sum) k g.spans c.w-w.ensures.case c.requires.0.inside c.args.s c.args.a c.requires.1.0 c.args.lane.now c.requires.1.1 (price k.w c.args.rewards.now) c.table_greatest-sum.result.sum c.in-Some.left c.table_greatest-sum.ensures.greatest same
    (omega (arith, linear, to_z-of_z sum_fits, product, whole, lt_from_test (to_z w128 (of_z w128 c.table_greatest-sum.result.sum)) (to_z w128 (of_z w128 c.times.result)) e))
