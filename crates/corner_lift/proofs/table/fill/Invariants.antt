use Rattle.std.proofs.Common.{◌≡◌, take}
use Rattle.lift_grid.specs.Rectangle.{spans_of}
use Rattle.lift_model.specs.Links.{block_place}
use Rattle.corner_lift.specs.Table.{blocks}
use Rattle.corner_lift.proofs.table.fill.Given as goal

-- the blocks so far were written
abbrev pub invariant-loop-first : goal.invariant-loop-first
invariant-loop-first l = record {
  at : l.at ≡ block_place l.case.model l.links.firsts l.first-index;
  filled : take l.at l.weights ≡ blocks l.case.model l.case.d (spans_of l.sides) (take l.first-index l.links.firsts);
}
