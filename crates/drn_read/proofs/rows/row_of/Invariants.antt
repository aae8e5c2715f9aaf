use Rattle.std.proofs.Common.{take}
use Rattle.drn_read.specs.Reading.{is_large, entry}
use Rattle.drn_read.specs.Scaling.{AreScaled}
use Rattle.drn_read.proofs.Building.{Built}
use Rattle.drn_read.proofs.rows.row_of.Given as goal

abbrev pub invariant-loop-transition : goal.invariant-loop-transition
invariant-loop-transition l = (Built (is_large l.common) (entry l.common) (take l.transition-index l.choice) l.entries.items) × AreScaled l.common l.polys.kept.items
