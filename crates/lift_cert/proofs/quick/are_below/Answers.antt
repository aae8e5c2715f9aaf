use Rattle.std.proofs.Common.{◌<◌, arith, slice_index_or}
use Rattle.std.proofs.lemmas.List.{get_or_default}
use Rattle.corner_lift.specs.Certificate.{mark, unmarked}
use Rattle.lift_cert.proofs.Misses.{one_more}
use Rattle.lift_cert.proofs.Targets.{all_targets}
use Rattle.lift_cert.proofs.quick.are_below.Goals as goal

pub loop-target-preserved : goal.loop-target-preserved
loop-target-preserved c =
    let target = slice_index_or c.args.targets.now c.loop-target.target-index 0 in
    let same = get_or_default c.args.ranks.now target unmarked 0 c.if-place-ranks.false in
    one_more (λ i. mark c.args.ranks.now (slice_index_or c.args.targets.now i 0) < c.args.below) c.loop-target.target-index
    c.loop-target.invariant (omega (arith, same, c.if-ranks-place.false))

pub returns : goal.returns
returns c = λ is. all_targets (λ t. mark c.args.ranks.now t < c.args.below) c.args.targets.now c.loop-target.target-index
    c.loop-target-test.false c.loop-target.invariant
