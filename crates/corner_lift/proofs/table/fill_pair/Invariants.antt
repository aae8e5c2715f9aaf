use Rattle.std.proofs.Common.{◌≡◌, map, take}
use Rattle.lift_model.specs.declared.entry.Entry.{Entry}
use Rattle.corner_lift.specs.Ends.{weight_at}
use Rattle.corner_lift.proofs.table.fill_pair.Given as goal

-- the weights of the entries so far were written
abbrev pub invariant-loop-entry : goal.invariant-loop-entry
invariant-loop-entry l = record {
  at : l.at ≡ l.entry-index;
  low : take l.at l.low_weights ≡ map (λ (entry : Entry). weight_at l.case.d l.pair.low entry.poly) (take l.entry-index l.entry-items);
  high : take l.at l.high_weights ≡ map (λ (entry : Entry). weight_at l.case.d l.pair.high entry.poly) (take l.entry-index l.entry-items);
}
