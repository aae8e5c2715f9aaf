use Rattle.std.proofs.Common.{◌<◌, ℕ, List, All, get_or, map}
use Rattle.lift_model.specs.declared.entry.Entry.{Entry}
use Rattle.lift_lump.specs.Lumped.{IsSmallEntry}
use Rattle.lift_lump.proofs.small.are_small.Given as goal

abbrev pub invariant-loop-choices : goal.invariant-loop-choices
invariant-loop-choices l = (k : ℕ) (d : List (List Entry)) → k < l.choices-index → All (All IsSmallEntry) (get_or (map (λ v. v.items) l.states) k d)
