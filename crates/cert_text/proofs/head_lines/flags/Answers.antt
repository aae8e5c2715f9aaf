use Rattle.std.proofs.Common.{◌∙◌, sym, arith}
use Rattle.cert_text.proofs.MarkLoops.{flag_set, flag_clear}
use Rattle.cert_text.proofs.head_lines.flags.Goals as goal
use Rattle.cert_text.proofs.head_lines.flags.Goals.{then-is_next+in_ok-push, else-is_next+in_ok-push-2}

pub loop-s-preserved : goal.loop-s-preserved
loop-s-preserved c = elim c.if-is_next.branch [
  | then-is_next+in_ok-push w ↦ rw (w.flags-is, w.next-is, w.in_ok-push.ensures.items) (record {
    within = omega (arith, c.is_next.ensures.some w.if-is_next.true);
    same = flag_set c.args.states c.loop-s.s c.loop-s.next c.args.goals.now c.loop-s.flags.items _ c.loop-s-test.true (sym c.is_next.ensures.value ∙ w.if-is_next.true) c.loop-s.invariant.same;
  })
  | else-is_next+in_ok-push-2 w ↦ rw (w.flags-is, w.next-is, w.in_ok-push-2.ensures.items) (record {
    within = c.loop-s.invariant.within;
    same = flag_clear c.args.states c.loop-s.s c.loop-s.next c.args.goals.now c.loop-s.flags.items _ c.loop-s-test.true (sym c.is_next.ensures.value ∙ w.if-is_next.false) c.loop-s.invariant.same;
  })
]
