use Rattle.std.proofs.Common.{arith}
use Rattle.std.proofs.lemmas.List.Elements.{All-replicate, All-set}
use Rattle.corner_lift.specs.Paired.{IsNoneOrPair}
use Rattle.corner_lift.proofs.paired.PairTable.of.Goals as goal
use Rattle.corner_lift.proofs.paired.PairTable.of.Goals.{in-Some, in_default}

pub loop-block-init : goal.loop-block-init
loop-block-init c = All-replicate (IsNoneOrPair c.args.weights.now) 64 _ (λ some. absurd (omega (arith, some)))

pub loop-block-preserved : goal.loop-block-preserved
loop-block-preserved c = elim c.match-pair_at.branch [
  | in-Some w ↦ rw w.pairs-is (All-set (IsNoneOrPair c.args.weights.now) c.loop-block.pairs w.slot.result _ (λ some. w.in-Some.ensures) c.loop-block.invariant)
  | in_default w ↦ rw w.pairs-is c.loop-block.invariant
]
