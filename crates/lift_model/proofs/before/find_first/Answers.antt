use Rattle.std.proofs.Common.{Bool, length, ap, ◌∙◌, arith}
use Rattle.lift_model.specs.Before.{part}
use Rattle.lift_model.proofs.First.{first_push, length_push}
use Rattle.lift_model.proofs.before.find_first.Goals as goal

pub loop-s-preserved : goal.loop-s-preserved
loop-s-preserved c =
    let lists = part c.args.starts.now c.args.ends.now c.args.before.now in
    record {
      count = ap (length {A = Bool}) c.in_ok-push.ensures.items ∙ omega (arith, c.loop-s.invariant.count, length_push c.loop-s.list.items c.is_first.result);
      first = rw c.in_ok-push.ensures.items (first_push c.args.positions.now lists c.loop-s.list.items c.loop-s.s _ c.loop-s.invariant.count c.loop-s.invariant.first c.is_first.ensures);
    }
