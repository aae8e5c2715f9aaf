use Rattle.std.proofs.Common.{◌≡◌, map, take, slice_index_or}
use Rattle.lift_model.proofs.links.positions_of.Given as goal

-- the positions of the states so far
abbrev pub invariant-loop-s : goal.invariant-loop-s
invariant-loop-s l = l.list.items ≡ map (λ s. slice_index_or l.positions s 0) (take l.s-index l.states)
