use Rattle.lift_lump.specs.Renaming.{IsRun}
use Rattle.lift_lump.proofs.partition.longest_run.Given as goal

abbrev pub invariant-loop-i : goal.invariant-loop-i
invariant-loop-i l = record {
  place : IsRun l.touched l.from l.place;
  start : IsRun l.touched l.from l.start;
}
