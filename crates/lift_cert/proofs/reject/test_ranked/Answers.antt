use Rattle.std.proofs.Common.{◌≡◌, true, false, subst, arith}
use Rattle.lift_grid.specs.Rectangle.{spans_of}
use Rattle.lift_cert.specs.RejectMiss.{IsHeldCorner, IsHeldRow}
use Rattle.lift_cert.proofs.Misses.{one_more}
use Rattle.lift_cert.proofs.RejectMisses.{marked_at}
use Rattle.lift_cert.proofs.reject.test_ranked.Goals as goal

pub test_corner-requires-clause-at : goal.test_corner-requires-clause-at
test_corner-requires-clause-at c = record {
  state = c.requires.state;
  inner = c.requires.inner;
  ranked = c.requires.ranked;
  pick = c.pick-choice.ensures;
  choice = rw c.pick-choice.ensures (marked_at c.args.case.now c.args.r.now c.args.state c.requires.form c.requires.inner c.requires.ranked).pick;
  corner = rw c.corners_of-corner-end.ensures.count at c.loop-corner-test.true;
  corners = c.loop-corner.invariant;
}

pub loop-corner-preserved : goal.loop-corner-preserved
loop-corner-preserved c = one_more (IsHeldCorner c.args.case.now (spans_of c.args.sides.now) c.args.r.now c.args.state c.pick-choice.result) c.loop-corner.corner c.loop-corner.invariant c.in_ok-test_corner.ensures.miss

pub returns-clause-miss : goal.returns-clause-miss
returns-clause-miss c =
    let all = rw c.corners_of-corner-end.ensures.count at c.loop-corner-test.false in
    record {
      goal = λ is. let wrong : true ≡ false = cc in absurd (cc wrong);
      unranked = λ e none. absurd (omega (arith, none, c.requires.ranked));
      row = λ e lt. subst (λ a. IsHeldRow c.args.case.now (spans_of c.args.sides.now) c.args.r.now c.args.state a) c.pick-choice.ensures (λ corner below. c.loop-corner.invariant corner (omega (arith, all)));
    }
