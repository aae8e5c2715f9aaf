use Rattle.std.proofs.Common.{rules, ◌≡◌, ◌*ℤ◌, ◌+ℤ◌, ◌-ℤ◌, w64, to_z, of_z, to_z-of_z, SFits, ap, ap₂, ◌∙◌}
use mir.Syntax.{w128}
use Rattle.corner_lift.proofs.PairSums.{risen_fits}
use Rattle.corner_lift.proofs.pairs.risen.Goals as goal
use Rattle.corner_lift.proofs.pairs.risen.Goals.{After-times-2}

-- what the code sums
sum_is : (c : After-times-2) → to_z w128 (of_z w128 c.times.result) +ℤ to_z w128 (of_z w128 c.times-2.result) ≡ (c.args.whole *ℤ c.args.second) +ℤ (c.args.weight *ℤ (c.args.first -ℤ c.args.second))
sum_is c =
    let p0 : SFits w128 c.times.result = search rules in
    let p1 : SFits w128 c.times-2.result = search rules in
    let rise : SFits w64 c.rise_of.result = search rules in
    let one = to_z-of_z p0 ∙ c.times.ensures ∙ ap₂ ◌*ℤ◌ (to_z-of_z c.ranges.whole) (to_z-of_z c.ranges.second) in
    let difference = c.rise_of.ensures ∙ ap₂ ◌-ℤ◌ (to_z-of_z c.ranges.first) (to_z-of_z c.ranges.second) in
    let two = to_z-of_z p1 ∙ c.times-2.ensures ∙ ap₂ ◌*ℤ◌ (to_z-of_z c.ranges.weight) (to_z-of_z rise ∙ difference) in
    ap₂ ◌+ℤ◌ one two

pub overflow_add-result : goal.overflow_add-result
overflow_add-result c = rw (sum_is c) (risen_fits c.args.whole c.args.weight c.args.first c.args.second c.requires.weight c.requires.first c.requires.second)

pub returns : goal.returns
returns c = ap (λ z. to_z w128 (of_z w128 z)) (sum_is c) ∙ to_z-of_z (risen_fits c.args.whole c.args.weight c.args.first c.args.second c.requires.weight c.requires.first c.requires.second)
