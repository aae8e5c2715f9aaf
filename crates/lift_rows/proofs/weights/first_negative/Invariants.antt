use Rattle.lift_model.specs.Model.{row_at}
use Rattle.lift_rows.proofs.Negatives.{NoneBefore, NoneAt}
use Rattle.lift_rows.proofs.weights.first_negative.Given as goal

-- the corners of this entry so far
abbrev pub invariant-loop-corner : goal.invariant-loop-corner
invariant-loop-corner l = NoneAt l.asked (row_at l.asked.model l.s l.a) l.entry l.corner

-- the entries so far
abbrev pub invariant-loop-entry : goal.invariant-loop-entry
invariant-loop-entry l = NoneBefore l.asked (row_at l.asked.model l.s l.a) l.entry
