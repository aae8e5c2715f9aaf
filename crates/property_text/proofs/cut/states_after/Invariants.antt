use Rattle.std.proofs.Common.{◌≡◌, map, take}
use Rattle.property_text.specs.Restricted.{is_kept, cut_from}
use Rattle.property_text.proofs.cut.states_after.Given as goal

-- the states so far
abbrev pub invariant-loop-s : goal.invariant-loop-s
invariant-loop-s l = map (λ v. v.items) l.states.items ≡ cut_from l.poly (is_kept l.model l.safe) 0 (take l.s l.model.states)
