use Rattle.std.proofs.Common.{take, map}
use Rattle.std.specs.List.{list_any}
use Rattle.drn_read.specs.Reading.{is_large, entry}
use Rattle.drn_read.specs.Scaling.{AreScaled}
use Rattle.drn_read.proofs.Building.{Built}
use Rattle.drn_read.proofs.rows.rows_of.Given as goal

abbrev pub invariant-loop-choice : goal.invariant-loop-choice
invariant-loop-choice l = (Built (λ row. list_any (is_large l.common) row.items) (λ row. map (entry l.common) row.items) (take l.choice-index l.choices) l.rows.items) × AreScaled l.common l.polys.kept.items
