use Rattle.std.proofs.Common.{arith}
use Rattle.lift_model.proofs.Laying.{row_starts_more, cut_more}
use Rattle.lift_model.proofs.layout.push_states.Goals as goal

pub loop-s-preserved : goal.loop-s-preserved
loop-s-preserved c =
    let rows_ok = c.push_rows.new.layout.rows.ok.0 in
    let targets_ok = c.push_rows.new.layout.targets.ok.0 in
    record {
      laid = c.in_ok-push_rows.ensures.laid;
      rows = rw (c.in_ok-push.ensures.items) (row_starts_more c.args.model.now _ c.loop-s.s c.len.result (omega (arith, c.len.ensures, rows_ok, c.in_ok-push_rows.ensures.laid.count)) c.loop-s.invariant.rows);
      targets = rw (c.in_ok-push-2.ensures.items) (cut_more c.args.model.now _ _ _ c.loop-s.s c.len-in-loop-s.result c.in_ok-push_rows.ensures.targets (omega (arith, c.len-in-loop-s.ensures, targets_ok)) c.loop-s.invariant.targets);
    }
