use Rattle.std.proofs.Common.{◌≡◌, ◌-◌, arith}
use Rattle.corner_lift.specs.Case.{greatest_size}
use Rattle.lift_rows.proofs.Widths.{greatest_size-positive, limit_none, limit_more}
use Rattle.lift_rows.proofs.width.limit_of.Goals as goal

pub loop-left-init : goal.loop-left-init
loop-left-init c = let k = c.args.asked.now in (omega arith, rw c.w.ensures.value (limit_none (greatest_size k.d k.root) k.w _ (omega arith)))

pub nonzero_div-limit : goal.nonzero_div-limit
nonzero_div-limit c = rw c.greatest-limit.ensures.value (greatest_size-positive c.args.asked.now c.w.ensures.asked)

pub loop-left-preserved : goal.loop-left-preserved
loop-left-preserved c =
    let k = c.args.asked.now in (
      omega arith,
      rw c.greatest-limit.ensures.value (limit_more (greatest_size k.d k.root) k.w _ _ c.loop-left.limit (greatest_size-positive k c.w.ensures.asked) (omega arith) c.loop-left.invariant.1),
    )

pub returns : goal.returns
returns c =
    let all : c.args.count - c.loop-left.left ≡ c.args.count = omega arith in
    rw all at c.loop-left.invariant.1
