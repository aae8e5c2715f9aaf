use Rattle.std.proofs.Common.{◌≡◌, take}
use Rattle.lift_model.specs.Links.{polynomials}
use Rattle.lift_model.proofs.blocks.are_same.Given as goal

-- the polynomials so far are the same
abbrev pub invariant-loop-index : goal.invariant-loop-index
invariant-loop-index l = polynomials (take l.index l.left) ≡ polynomials (take l.index l.right)
