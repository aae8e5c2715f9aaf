use Rattle.std.proofs.Common.{◌≡◌, drop, map, bit_or}
use Rattle.lift_model.specs.Model.{union, support, choices_support}
use Rattle.lift_model.proofs.row.choices_support.Given as goal

abbrev pub invariant-loop-row : goal.invariant-loop-row
invariant-loop-row l = bit_or l.set (union (map support (drop l.row-index l.choices))) ≡ choices_support l.choices
