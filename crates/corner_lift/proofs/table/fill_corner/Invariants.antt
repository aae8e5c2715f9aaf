use Rattle.std.proofs.Common.{◌≡◌, ◌+◌, ◌++◌, map, take}
use Rattle.lift_model.specs.declared.entry.Entry.{Entry}
use Rattle.corner_lift.specs.Ends.{weight_at}
use Rattle.corner_lift.proofs.table.fill_corner.Given as goal

-- the weights of the entries so far were written
abbrev pub invariant-loop-entry : goal.invariant-loop-entry
invariant-loop-entry l = record {
  at : l.at ≡ l.place + l.entry-index;
  filled : take l.at l.weights ≡ take l.place l.initial.weights ++ map (λ (entry : Entry). weight_at l.case.d l.ends entry.poly) (take l.entry-index l.entry-items);
}
