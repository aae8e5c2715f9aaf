use Rattle.std.proofs.Common.{◌<◌, All, length}
use Rattle.lift_lump.proofs.Crowding.{AreNoted}
use Rattle.lift_lump.proofs.partition.crowded.Given as goal

abbrev pub invariant-loop-i : goal.invariant-loop-i
invariant-loop-i l = record {
  below : All (λ b. b < length l.part.members) l.blocks.items;
  noted : AreNoted l.touched l.part.sizes.items l.i l.count l.blocks.items;
}
