use Rattle.std.proofs.Common.{◌≡◌, map, drop, []}
use Rattle.lift_grid.specs.Region.{intervals_from}
use Rattle.lift_grid.specs.Parts.{ratios_of}
use Rattle.lift_grid.proofs.intervals.intervals_of.Given as goal

abbrev pub invariant-loop-piece : goal.invariant-loop-piece
invariant-loop-piece l =
    intervals_from l.names (map ratios_of l.intervals.items) (map (λ p. p.now) (drop l.piece-index l.piece-items)) ≡ intervals_from l.names [] (map (λ p. p.now) l.piece-items)
