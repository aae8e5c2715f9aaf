use Rattle.std.proofs.Common.{◌≡◌, drop, map, bit_or}
use Rattle.lift_model.specs.Model.{union, choices_support}
use Rattle.lift_model.proofs.model.live_of.Given as goal

-- the set so far and what is left make the live parameters
abbrev pub invariant-loop-choices : goal.invariant-loop-choices
invariant-loop-choices l = bit_or l.set (union (map (λ v. choices_support v.items) (drop l.choices-index l.states))) ≡ union (map (λ v. choices_support v.items) l.states)
