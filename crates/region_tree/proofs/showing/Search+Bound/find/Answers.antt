use Rattle.lift_grid.specs.Rectangle.{spans_of}
use Rattle.region_tree.proofs.Ranges.{found_decides}
use Rattle.region_tree.proofs.showing.Search+Bound.find.Goals as goal

pub returns-clause-decided : goal.returns-clause-decided
returns-clause-decided c =
    let s = c.args.self.now in
    let sides = c.requires.sides in
    found_decides s.case.now s.from (spans_of c.args.sides.now) s.sought c.lower_precisions_are_cases.ensures c.certificates_are_of_one_kind.ensures.one c.w.ensures.case
    (record { rectangle = sides.rectangle.spans; within = sides.within }) c.requires.from.0 c.decide.new.lanes.pools c.decide.result c.decide.ensures.found
