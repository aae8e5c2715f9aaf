use Rattle.std.proofs.Common.{map}
use Rattle.std.specs.List.{list_any}
use Rattle.drn_read.specs.Reading.{is_large, entry}
use Rattle.drn_read.specs.Scaling.{AreScaled}
use Rattle.drn_read.proofs.Building.{Built}
use Rattle.drn_read.proofs.rows.all_rows.Given as goal

abbrev pub invariant-loop-state : goal.invariant-loop-state
invariant-loop-state l = (Built (λ s. list_any (list_any (is_large l.common)) s.choices) (λ s. map (map (entry l.common)) s.choices) l.yielded (map (λ v. v.items) l.rows.items)) × AreScaled l.common l.polys.kept.items
