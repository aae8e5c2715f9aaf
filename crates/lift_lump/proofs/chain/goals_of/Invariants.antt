use Rattle.std.proofs.Common.{◌≡◌, map, take}
use Rattle.lift_model.specs.Model.{is_goal}
use Rattle.lift_lump.proofs.chain.goals_of.Given as goal

abbrev pub invariant-loop-s : goal.invariant-loop-s
invariant-loop-s l = l.goals.items ≡ map (is_goal l.model) (take l.s-index l.states)
