use Rattle.std.proofs.Common.{◌≡◌, map, take}
use Rattle.lift_collapse.specs.Building.{states_at_places}
use Rattle.lift_collapse.proofs.build.placed_states.Given as goal

-- the choices of the states so far
abbrev pub invariant-loop-s : goal.invariant-loop-s
invariant-loop-s l = map (λ v. v.items) l.states.items ≡ states_at_places l.model l.places (take l.s-index l.kept)
