use Rattle.std.proofs.Common.{◌≡◌, ◌-◌}
use Rattle.view_map.specs.Choice.{first_from, first_live, is_choice}
use Rattle.view_map.proofs.choice.first_live.Given as goal

abbrev pub invariant-loop-parameter : goal.invariant-loop-parameter
invariant-loop-parameter l = first_live l.live l.other ≡ first_from (is_choice l.live l.other) l.parameter (16 - l.parameter)
