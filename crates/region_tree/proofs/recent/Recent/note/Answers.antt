use Rattle.std.proofs.Common.{◌≡◌, length, map, replicate, refl, ap, ◌∙◌}
use Rattle.region_tree.specs.Recent.{most_noted}
use Rattle.region_tree.proofs.Places.{lane_at, noted_written, shape_written}
use Rattle.region_tree.proofs.recent.Recent.note.Goals as goal

pub copy_from_slice-requires : goal.copy_from_slice-requires
copy_from_slice-requires c =
    let has : map length c.self.inside.sides.lanes ≡ replicate most_noted (length c.args.sides.now) = rw (← c.self.view_is) at c.requires in
    ap length c.lane_mut.ensures.value ∙ (lane_at c.self.inside.sides.lanes most_noted (length c.args.sides.now) c.place-place.result has c.place-place.ensures.place).1

pub returns-clause-shape : goal.returns-clause-shape
returns-clause-shape c =
    let has : map length c.self.inside.sides.lanes ≡ replicate most_noted (length c.args.sides.now) = rw (← c.self.view_is) at c.requires in
    rw (← c.self.view_is, c.copy_from_slice.ensures.after) (shape_written c.lanes_stand_alone.ensures.writes c.self.inside.sides most_noted (length c.args.sides.now) has c.place-place.result c.place-place.ensures.place c.args.sides.now refl)

pub returns-clause-noted : goal.returns-clause-noted
returns-clause-noted c =
    let has : map length c.self.inside.sides.lanes ≡ replicate most_noted (length c.args.sides.now) = rw (← c.self.view_is) at c.requires in
    let used = c.used_with-self-inside.ensures in
    rw (← c.self.view_is, c.copy_from_slice.ensures.after)
    (c.place-place.result, noted_written c.lanes_stand_alone.ensures.writes c.self.inside.sides most_noted (length c.args.sides.now) has c.place-place.result c.place-place.ensures.place c.args.sides.now refl c.self.inside.count c.used_with-self-inside.result used.used used.others)
