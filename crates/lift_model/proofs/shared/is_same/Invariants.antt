use Rattle.std.proofs.Common.{◌≡◌, take}
use Rattle.lift_model.proofs.shared.is_same.Given as goal

-- the terms so far are the same
abbrev pub invariant-loop-index : goal.invariant-loop-index
invariant-loop-index l = take l.index l.left ≡ take l.index l.right
