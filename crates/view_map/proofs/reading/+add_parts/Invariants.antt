use Rattle.std.proofs.Common.{◌-◌}
use Rattle.view_map.proofs.reading.+add_parts.Given as goal

abbrev pub decreases-add_parts : goal.decreases-add_parts
decreases-add_parts l = 20 - l.depth
