use Rattle.std.proofs.Common.{rules, ◌≡◌, ◌*ℤ◌, ◌+ℤ◌, ◌-ℤ◌, w64, to_z, of_z, to_z-of_z, SFits, ap, ap₂, ◌∙◌}
use Rattle.corner_lift.proofs.PairSums.{second_in_lane, rise_in_lane, risen_in_lane}
use Rattle.corner_lift.proofs.paired.lane_risen.Goals as goal
use Rattle.corner_lift.proofs.paired.lane_risen.Goals.{After-rise_of}

-- what the first number is above the second
rise_is : (c : After-rise_of) → to_z w64 (of_z w64 c.rise_of.result) ≡ c.args.first -ℤ c.args.second
rise_is c =
    let rise : SFits w64 c.rise_of.result = search rules in
    to_z-of_z rise ∙ c.rise_of.ensures ∙ ap₂ ◌-ℤ◌ (to_z-of_z c.ranges.first) (to_z-of_z c.ranges.second)

-- what the code sums
sum_is : (c : After-rise_of) → to_z w64 (of_z w64 (to_z w64 (of_z w64 c.args.whole) *ℤ to_z w64 (of_z w64 c.args.second))) +ℤ to_z w64 (of_z w64 (to_z w64 (of_z w64 c.args.weight) *ℤ to_z w64 (of_z w64 c.rise_of.result)))
    ≡ (c.args.whole *ℤ c.args.second) +ℤ (c.args.weight *ℤ (c.args.first -ℤ c.args.second))
sum_is c = ap₂ ◌+ℤ◌
    (ap (λ z. to_z w64 (of_z w64 z)) (ap₂ ◌*ℤ◌ (to_z-of_z c.ranges.whole) (to_z-of_z c.ranges.second)) ∙ to_z-of_z (second_in_lane c.args.whole c.args.weight c.args.first c.args.second c.requires.weight c.requires.first c.requires.second))
    (ap (λ z. to_z w64 (of_z w64 z)) (ap₂ ◌*ℤ◌ (to_z-of_z c.ranges.weight) (rise_is c)) ∙ to_z-of_z (rise_in_lane c.args.whole c.args.weight c.args.first c.args.second c.requires.weight c.requires.first c.requires.second))

pub overflow_mul-result-2 : goal.overflow_mul-result-2
overflow_mul-result-2 c = rw (to_z-of_z c.ranges.weight, rise_is c) (rise_in_lane c.args.whole c.args.weight c.args.first c.args.second c.requires.weight c.requires.first c.requires.second)

pub overflow_add-result : goal.overflow_add-result
overflow_add-result c = rw (sum_is c) (risen_in_lane c.args.whole c.args.weight c.args.first c.args.second c.requires.weight c.requires.first c.requires.second)

pub returns : goal.returns
returns c = ap (λ z. to_z w64 (of_z w64 z)) (sum_is c) ∙ to_z-of_z (risen_in_lane c.args.whole c.args.weight c.args.first c.args.second c.requires.weight c.requires.first c.requires.second)
