use Rattle.std.proofs.Common.{◌≡◌, ◌<◌, ◌^◌, length, ℕ, arith}
use Rattle.lift_grid.specs.Laws.{MembersAreBelow, SpansAreHalvable}
use Rattle.lift_grid.specs.Rectangle.{Spans, spans_of}
use Rattle.lift_grid.specs.Splitting.{HasHalvings, IsHalvable, IsSplitAxis}
use Rattle.engine_tests.proofs.lift.splits.halves.Goals as goal

-- the axis of three spans can be halved
halvable : MembersAreBelow → SpansAreHalvable → (live axis : ℕ) (ss : Spans) → live < 2 ^ 3 → length ss ≡ 3 → HasHalvings 1 ss → IsSplitAxis live ss axis → IsHalvable axis ss
halvable members law live axis ss small three left split =
    let below = members 3 live axis small split.is_live in
    law 0 axis ss left (omega arith)

pub split_axis-requires : goal.split_axis-requires
split_axis-requires c = λ i bit. let below : i < 3 = c.members_are_below.ensures 3 c.args.live i c.requires.live bit in omega arith

pub half-requires : goal.half-requires
half-requires c = halvable c.members_are_below.ensures c.halves_stay_on_grid.ensures.halvable c.args.live c.in-Some.axis (spans_of c.args.sides.now) c.requires.live c.requires.spans c.requires.halvings c.in-Some.ensures.axis

pub half-requires-2 : goal.half-requires-2
half-requires-2 c = halvable c.members_are_below.ensures c.halves_stay_on_grid.ensures.halvable c.args.live c.in-Some.axis (spans_of c.args.sides.now) c.requires.live c.requires.spans c.requires.halvings c.in-Some.ensures.axis
