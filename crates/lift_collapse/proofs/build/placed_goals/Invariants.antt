use Rattle.std.proofs.Common.{◌≡◌, map, take}
use Rattle.lift_model.specs.Model.{is_goal}
use Rattle.lift_collapse.proofs.build.placed_goals.Given as goal

-- the marks of the states so far
abbrev pub invariant-loop-s : goal.invariant-loop-s
invariant-loop-s l = l.goal.items ≡ map (is_goal l.model) (take l.s-index l.kept)
