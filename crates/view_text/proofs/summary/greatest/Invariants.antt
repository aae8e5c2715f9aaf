use Rattle.std.proofs.Common.{◌≡◌, ◌-◌}
use Rattle.view_text.specs.Summary.{greatest_from}
use Rattle.view_text.proofs.summary.greatest.Given as goal

abbrev pub invariant-loop-depth : goal.invariant-loop-depth
invariant-loop-depth l = greatest_from l.map.parts 0 21 ≡ greatest_from l.map.parts l.depth (21 - l.depth)
