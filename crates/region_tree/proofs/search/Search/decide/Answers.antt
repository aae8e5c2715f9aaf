use Rattle.std.proofs.Common.{◌≡◌, ◌*◌, length, ap}
use Rattle.lift_grid.specs.Rectangle.{spans_of}
use Rattle.corner_lift.specs.Case.{IsInside}
use Rattle.region_tree.proofs.Shapes.{inside_ends}
use Rattle.region_tree.proofs.Meeting.{inferred_is_sound}
use Rattle.region_tree.proofs.search.Search.decide.Goals as goal

pub outlook-outlook-requires : goal.outlook-outlook-requires
outlook-outlook-requires g c =
    let k = c.args.self.now.case.now in
    let size : length c.args.sides.now ≡ 2 * length k.model.names = inside_ends k c.w.ensures.case c.args.sides.now c.requires.sides in
    let decided : c.lanes.inside.decided ≡ c.args.lanes.now.decided = ap (λ l. l.decided) c.lanes.view_is in
    rw (size, decided) c.requires.lanes.decided

pub decide_by-requires-clause-outlook : goal.decide_by-requires-clause-outlook
decide_by-requires-clause-outlook g c =
    let k = c.args.self.now.case.now in
    let lanes = c.args.lanes.now in
    let decided : c.lanes.inside.decided ≡ lanes.decided = ap (λ l. l.decided) c.lanes.view_is in
    let inferred = rw decided at c.outlook-outlook.ensures in
    let sides = c.requires.sides in
    let inside : IsInside k.root (spans_of c.args.sides.now) = record { rectangle = sides.rectangle.spans; within = sides.within } in
    inferred_is_sound _ k lanes.decided (spans_of c.args.sides.now) c.outlook-outlook.result c.requires.known inside inferred
