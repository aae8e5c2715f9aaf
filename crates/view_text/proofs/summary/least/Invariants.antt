use Rattle.std.proofs.Common.{◌≡◌, ◌-◌}
use Rattle.view_text.specs.Summary.{least_below}
use Rattle.view_text.proofs.summary.least.Given as goal

abbrev pub invariant-loop-above : goal.invariant-loop-above
invariant-loop-above l = least_below l.map.parts 21 ≡ least_below l.map.parts (21 - l.above)
