use Rattle.std.proofs.Common.{◌≡◌, length, drop}
use Rattle.lift_lump.specs.Splitting.{AreInside, AreGathered}
use Rattle.lift_lump.proofs.Crowding.{HaveRestBut}
use Rattle.lift_lump.proofs.partition.add_rests.Given as goal

abbrev pub invariant-loop-block : goal.invariant-loop-block
invariant-loop-block l = record {
  inside : AreInside l.part.labels.items l.part.sizes.items l.part.members;
  gathered : AreGathered l.part.labels.items l.numbers l.part.members l.touched.items;
  rest : HaveRestBut (drop l.block-index l.block-items) l.part.labels.items l.part.members l.touched.items;
  count : length l.part.members ≡ length l.fn.part.members;
  same : l.part.labels.items ≡ l.fn.part.labels.items;
}
