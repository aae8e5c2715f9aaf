use Rattle.lift_rows.proofs.RowTests.{AreAdmittedBefore}
use Rattle.lift_rows.proofs.admission.admit.Given as goal

-- the rows before this choice of the state
abbrev pub invariant-loop-a : goal.invariant-loop-a
invariant-loop-a l = AreAdmittedBefore l.asked l.s l.a

-- the rows of the states before this one
abbrev pub invariant-loop-s : goal.invariant-loop-s
invariant-loop-s l = AreAdmittedBefore l.asked l.s 0
