use Rattle.std.proofs.Common.{rules, ◌≡◌, length, sym, ◌∙◌, ap, []}
use Rattle.lift_grid.specs.Rectangle.{spans_of, sides_of}
use Rattle.lift_pool.specs.Lanes.{last_lane, pool_with}
use Rattle.lift_walk.specs.Sides.{half_of}
use Rattle.lift_walk.proofs.Stepping.{snoc-get, half_taken}
use Rattle.lift_walk.proofs.sides.take_half.Goals as goal

pub narrow-requires : goal.narrow-requires
narrow-requires c =
    let last = last_lane c.args.sides.now.lanes in
    let same : c.lane_mut.result.now ≡ last = rw (c.take_copy.ensures, c.lanes-last.ensures) at c.lane_mut.ensures.value ∙ snoc-get c.args.sides.now.lanes last [] in
    rw same c.requires.halvable

pub returns : goal.returns
returns c =
    let last = last_lane c.args.sides.now.lanes in
    let same : c.lane_mut.result.now ≡ last = rw (c.take_copy.ensures, c.lanes-last.ensures) at c.lane_mut.ensures.value ∙ snoc-get c.args.sides.now.lanes last [] in
    let half = rw same at c.narrow.ensures.half in
    let paired = c.narrow.ensures.pairs (rw same c.requires.sides.paired) in
    let flat : c.narrow.new.sides ≡ sides_of (half_of c.args.lower c.args.axis (spans_of last)) = sym paired ∙ ap sides_of half in
    let size : length c.narrow.new.sides ≡ length c.lane_mut.result.now = search rules in
    half_taken c.lanes_stand_alone.ensures.writes c.args.sides.now c.take_copy.new.self c.lanes-last.result last c.narrow.new.sides c.take_copy.ensures c.lanes-last.ensures (size ∙ ap length same)
    ∙ ap (λ l. pool_with c.args.sides.now l) flat
