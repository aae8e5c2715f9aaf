use Rattle.std.proofs.Common.{◌≡◌}
use Rattle.lift_lump.proofs.Starting.{IsStarted}
use Rattle.lift_lump.proofs.partition.Partition.start.Given as goal

abbrev pub invariant-loop-s : goal.invariant-loop-s
invariant-loop-s l = record {
  started : IsStarted l.s l.part.labels.items l.part.sizes.items l.part.members;
  same : l.part.labels.items ≡ l.initial.part.labels.items;
}
