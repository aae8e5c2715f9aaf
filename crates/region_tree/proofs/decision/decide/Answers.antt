use Rattle.std.proofs.Common.{rules, ◌≡◌}
use Rattle.lift_grid.specs.Rectangle.{spans_of}
use Rattle.region_tree.specs.Rooms.{last_sides}
use Rattle.region_tree.specs.declared.room.Room.{Room}
use Rattle.region_tree.proofs.Ranges.{found_decides, verdict_decides}
use Rattle.region_tree.proofs.decision.decide.Goals as goal

pub returns-clause-decided : goal.returns-clause-decided
returns-clause-decided c =
    let k = c.args.case.now in
    let spans = spans_of (last_sides c.args.room.now) in
    let lower = c.lower_precisions_are_cases.ensures in
    let sides = c.requires.can.sides in
    let same : c.lane-sides.result.now ≡ last_sides c.args.room.now = search rules in
    let found = found_decides k c.args.from spans c.args.bound lower c.certificates_are_of_one_kind.ensures.one c.w.ensures.case
    (record { rectangle = sides.rectangle.spans; within = sides.within }) c.requires.from.0 c.decide_by.new.lanes.pools c.decide_by.result (rw same at c.decide_by.ensures.found) in
    let room : Room = record c.args.room.now { lanes = c.decide_by.new.lanes } in
    rw c.verdict_of.ensures (verdict_decides lower c.ranks_fit.ensures.greatest k c.args.from spans c.args.bound c.w.ensures.case c.requires.from.0 room c.decide_by.result found)
