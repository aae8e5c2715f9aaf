use Rattle.lift_lump.proofs.Starting.{AreLabelsOf}
use Rattle.lift_lump.proofs.partition.first_labels.Given as goal

abbrev pub invariant-loop-s : goal.invariant-loop-s
invariant-loop-s l = AreLabelsOf l.model l.s l.labels.items
