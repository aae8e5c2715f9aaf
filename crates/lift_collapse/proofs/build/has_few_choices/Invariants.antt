use Rattle.std.proofs.Common.{◌≡◌, ◌≤◌, length, map, sum_by, take}
use Rattle.lift_model.specs.Valid.{most_choices}
use Rattle.lift_collapse.proofs.build.has_few_choices.Given as goal

-- those of the states so far are counted
abbrev pub invariant-loop-rows : goal.invariant-loop-rows
invariant-loop-rows l = (l.count ≡ sum_by length (map (λ v. v.items) (take l.rows-index l.states))) × (l.count ≤ most_choices)
