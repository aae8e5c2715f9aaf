use Rattle.std.proofs.Common.{◌≡◌, length, map, replicate, ap, ◌∙◌, arith}
use Rattle.region_tree.specs.Recent.{most_noted}
use Rattle.region_tree.proofs.Places.{lane_at}
use Rattle.region_tree.proofs.recent.Recent.meet.Goals as goal

pub rectangles_meet-requires : goal.rectangles_meet-requires
rectangles_meet-requires c =
    let has : map length c.self.inside.sides.lanes ≡ replicate most_noted (length c.args.sides.now) = rw (← c.self.view_is) at c.requires in
    ap length c.lane.ensures ∙ (lane_at c.self.inside.sides.lanes most_noted (length c.args.sides.now) c.loop-i.i has (omega (arith, c.loop-i-test.true, c.self.invariant))).1
