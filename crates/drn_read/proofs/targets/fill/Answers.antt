use Rattle.std.specs.Ordering.{nat_cmp}
use Rattle.std.specs.BTreeSet.{contains}
use Rattle.drn_read.proofs.Tallies.{set_next}
use Rattle.drn_read.proofs.targets.fill.Goals as goal

pub loop-target-preserved : goal.loop-target-preserved
loop-target-preserved c q =
    set_next c.args.targets.now c.loop-target.target-index q (contains nat_cmp c.loop-target.set q) (contains nat_cmp c.insert.new.self q) c.loop-target-test.true (c.in_ok-insert.ensures.updates.0 q)
    (c.loop-target.invariant q)
