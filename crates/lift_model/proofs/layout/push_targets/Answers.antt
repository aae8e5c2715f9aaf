use Rattle.std.proofs.Common.{◌∙◌}
use Rattle.lift_model.proofs.Laying.{target_more}
use Rattle.lift_model.proofs.layout.push_targets.Goals as goal

pub loop-entry-preserved : goal.loop-entry-preserved
loop-entry-preserved c = c.in_ok-push.ensures.items ∙ target_more c.args.targets.now.items c.loop-entry.targets.items c.entries-entry-items.result.now c.loop-entry.entry-index c.entry-item.result c.loop-entry-test.true c.entry-item.is c.loop-entry.invariant
