use Rattle.std.proofs.Common.{arith, refl}
use Rattle.std.proofs.lemmas.List.Sums.{sum_by_more}
use Rattle.lift_model.proofs.Listing.{sums_more}
use Rattle.lift_model.proofs.before.sum_counts.Goals as goal

pub loop-count-preserved : goal.loop-count-preserved
loop-count-preserved c =
    let more = sums_more c.loop-count.starts.items c.args.counts.now c.loop-count.count-index c.loop-count.sum _ refl c.loop-count.invariant.last c.loop-count.invariant.sums in
    record {
      sums = rw c.in_ok-push.ensures.items more.0;
      last = rw c.in_ok-push.ensures.items more.1;
      total = omega (arith, c.loop-count.invariant.total, sum_by_more (λ n. n) c.args.counts.now c.loop-count.count-index 0 c.loop-count-test.true);
    }
