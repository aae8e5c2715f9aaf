use Rattle.std.proofs.Common.{ℕ, ◌<◌}
use Rattle.lift_grid.specs.Rectangle.{spans_of}
use Rattle.region_tree.specs.Recent.{Meet, sides_at}
use Rattle.region_tree.proofs.recent.Recent.meet.Given as goal

-- none of those before this one meets it
abbrev pub invariant-loop-i : goal.invariant-loop-i
invariant-loop-i l = (j : ℕ) → j < l.i → Meet (spans_of (sides_at l.self j)) (spans_of l.sides) → ⊥
