use Rattle.lift_lump.specs.Splitting.{AreInside}
use Rattle.lift_lump.proofs.Regrouping.{AreRegrouped}
use Rattle.lift_lump.proofs.partition.regroup.Given as goal

abbrev pub invariant-loop-i : goal.invariant-loop-i
invariant-loop-i l = record {
  inside : AreInside l.part.labels.items l.part.sizes.items l.part.members;
  regrouped : AreRegrouped l.touched l.fn.part.labels.items l.fn.part.members l.i l.name l.keeper l.part.labels.items l.part.members;
}
