use Rattle.std.proofs.Common.{◌≡◌, ◌*◌, length, ap}
use Rattle.lift_grid.specs.Rectangle.{spans_of}
use Rattle.corner_lift.specs.Case.{IsInside}
use Rattle.region_tree.specs.Recent.{Notes}
use Rattle.region_tree.proofs.Meeting.{known_too}
use Rattle.region_tree.proofs.Shapes.{inside_ends}
use Rattle.region_tree.proofs.search.Search.decide_by.Goals as goal

pub note-requires : goal.note-requires
note-requires g c =
    let k = c.args.self.now.case.now in
    let size : length c.args.sides.now ≡ 2 * length k.model.names = inside_ends k c.w.ensures.case c.args.sides.now c.requires.sides in
    let decided : c.lanes.inside.decided ≡ c.args.lanes.now.decided = ap (λ l. l.decided) c.lanes.view_is in
    rw (size, decided) c.requires.lanes.decided

pub returns-clause-known : goal.returns-clause-known
returns-clause-known g c before =
    let k = c.args.self.now.case.now in
    let lanes = c.args.lanes.now in
    let sides = c.requires.sides in
    let inside : IsInside k.root (spans_of c.args.sides.now) = record { rectangle = sides.rectangle.spans; within = sides.within } in
    let decided : c.lanes.inside.decided ≡ lanes.decided = ap (λ l. l.decided) c.lanes.view_is in
    let notes : Notes c.args.sides.now c.decide_in-told.result lanes.decided c.note.new.self = rw decided at c.note.ensures.notes in
    known_too _ k c.args.sides.now lanes.decided c.note.new.self before c.meeting_rectangles_agree.ensures inside c.decide_in-told.new.pools c.decide_in-told.result c.decide_in-told.ensures.told notes
