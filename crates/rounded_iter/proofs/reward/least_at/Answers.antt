use Rattle.std.proofs.Common.{rules, ◌≡◌, ◌*ℤ◌, ◌+ℤ◌, ◌-ℤ◌, SFits, w64, to_z, of_z, to_z-of_z, ap₂, ◌∙◌, arith}
use mir.Syntax.{w128}
use Rattle.lift_poly.proofs.Ring.{linear}
use Rattle.rounded_iter.specs.Reward.{rest_of}
use Rattle.rounded_iter.proofs.Solving.{read_product}
use Rattle.rounded_iter.proofs.Leaving.{product_small, price_least, kept_least, part_small, can_pay}
use Rattle.rounded_iter.proofs.reward.least_at.Goals as goal

pub times-requires : goal.times-requires
times-requires c =
    let can = c.requires in
    let own_fits : SFits w128 c.args.at.own = search rules in
    record { room = rw (to_z-of_z c.ranges.number, to_z-of_z own_fits) (product_small c.args.number c.args.top c.args.at.own can.number_in.0 can.number_in.1 can.own_in.0 (part_small _ _ _ _ _ _ can c.args.at.own can.own_in.1)) }

pub without-rest-requires : goal.without-rest-requires
without-rest-requires c =
    let can = c.requires in
    let sum_fits : SFits w128 c.args.at.sum = search rules in
    let whole_fits : SFits w128 c.args.at.whole = search rules in
    let own_fits : SFits w128 c.args.at.own = search rules in
    let price_fits : SFits w128 c.times-price.result = search rules in
    let due_fits : SFits w128 c.plus-due.result = search rules in
    let kept_fits : SFits w128 c.times.result = search rules in
    let price = read_product c.args.reward c.args.at.whole c.times-price.result c.ranges.reward whole_fits price_fits c.times-price.ensures in
    let due : to_z w128 (of_z w128 c.plus-due.result) ≡ c.args.at.sum +ℤ c.args.reward *ℤ c.args.at.whole = to_z-of_z due_fits ∙ c.plus-due.ensures ∙ ap₂ ◌+ℤ◌ (to_z-of_z sum_fits) price in
    let kept = read_product c.args.number c.args.at.own c.times.result c.ranges.number own_fits kept_fits c.times.ensures in
    (omega (arith, linear, kept, kept_least _ _ _ _ _ _ can), omega (arith, linear, kept, due, can.sum_in.0, price_least _ _ _ _ _ _ can))

pub least_over-requires : goal.least_over-requires
least_over-requires c =
    let can = c.requires in
    let sum_fits : SFits w128 c.args.at.sum = search rules in
    let whole_fits : SFits w128 c.args.at.whole = search rules in
    let own_fits : SFits w128 c.args.at.own = search rules in
    let price_fits : SFits w128 c.times-price.result = search rules in
    let due_fits : SFits w128 c.plus-due.result = search rules in
    let kept_fits : SFits w128 c.times.result = search rules in
    let rest_fits : SFits w128 c.without-rest.result = search rules in
    let left_fits : SFits w128 c.without-left.result = search rules in
    let price = read_product c.args.reward c.args.at.whole c.times-price.result c.ranges.reward whole_fits price_fits c.times-price.ensures in
    let due : to_z w128 (of_z w128 c.plus-due.result) ≡ c.args.at.sum +ℤ c.args.reward *ℤ c.args.at.whole = to_z-of_z due_fits ∙ c.plus-due.ensures ∙ ap₂ ◌+ℤ◌ (to_z-of_z sum_fits) price in
    let kept = read_product c.args.number c.args.at.own c.times.result c.ranges.number own_fits kept_fits c.times.ensures in
    let rest : to_z w128 (of_z w128 c.without-rest.result) ≡ rest_of c.args.number c.args.reward c.args.at.sum c.args.at.whole c.args.at.own = to_z-of_z rest_fits ∙ c.without-rest.ensures ∙ ap₂ ◌-ℤ◌ due kept in
    let left : to_z w128 (of_z w128 c.without-left.result) ≡ c.args.at.whole -ℤ c.args.at.own = to_z-of_z left_fits ∙ c.without-left.ensures ∙ ap₂ ◌-ℤ◌ (to_z-of_z whole_fits) (to_z-of_z own_fits) in
    rw (to_z-of_z c.ranges.number, to_z-of_z c.ranges.top, rest, left) (can_pay _ _ _ _ _ _ can)

pub returns : goal.returns
returns c =
    let can = c.requires in
    let sum_fits : SFits w128 c.args.at.sum = search rules in
    let whole_fits : SFits w128 c.args.at.whole = search rules in
    let own_fits : SFits w128 c.args.at.own = search rules in
    let price_fits : SFits w128 c.times-price.result = search rules in
    let due_fits : SFits w128 c.plus-due.result = search rules in
    let kept_fits : SFits w128 c.times.result = search rules in
    let rest_fits : SFits w128 c.without-rest.result = search rules in
    let left_fits : SFits w128 c.without-left.result = search rules in
    let price = read_product c.args.reward c.args.at.whole c.times-price.result c.ranges.reward whole_fits price_fits c.times-price.ensures in
    let due : to_z w128 (of_z w128 c.plus-due.result) ≡ c.args.at.sum +ℤ c.args.reward *ℤ c.args.at.whole = to_z-of_z due_fits ∙ c.plus-due.ensures ∙ ap₂ ◌+ℤ◌ (to_z-of_z sum_fits) price in
    let kept = read_product c.args.number c.args.at.own c.times.result c.ranges.number own_fits kept_fits c.times.ensures in
    let rest : to_z w128 (of_z w128 c.without-rest.result) ≡ rest_of c.args.number c.args.reward c.args.at.sum c.args.at.whole c.args.at.own = to_z-of_z rest_fits ∙ c.without-rest.ensures ∙ ap₂ ◌-ℤ◌ due kept in
    let left : to_z w128 (of_z w128 c.without-left.result) ≡ c.args.at.whole -ℤ c.args.at.own = to_z-of_z left_fits ∙ c.without-left.ensures ∙ ap₂ ◌-ℤ◌ (to_z-of_z whole_fits) (to_z-of_z own_fits) in
    let fits : SFits w64 c.least_over.result = search rules in
    rw (to_z-of_z fits) (rw (to_z-of_z c.ranges.number, to_z-of_z c.ranges.top, rest, left) at c.least_over.ensures)
