use Rattle.std.proofs.Common.{refl, arith}
use Rattle.region_tree.proofs.Meeting.{spans_end}
use Rattle.region_tree.proofs.recent.rectangles_meet.Goals as goal

pub returns : goal.returns
returns c =
    let ends = rw (spans_end c.args.sides.now c.loop-at.at (omega (arith, c.loop-at-test.false)), spans_end c.args.others.now c.loop-at.at (omega (arith, c.loop-at-test.false, c.requires))) at c.loop-at.invariant.meet in
    (λ t. ends.0 tt, λ m. refl)
