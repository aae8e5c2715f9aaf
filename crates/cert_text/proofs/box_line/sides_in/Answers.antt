use Rattle.std.proofs.Common.{◌+◌, ◌*◌, ◌<◌, ◌∙◌, length, arith}
use Rattle.cert_text.proofs.BoxLoop.{sides_go}
use Rattle.cert_text.proofs.box_line.sides_in.Goals as goal

pub loop-i-preserved : goal.loop-i-preserved
loop-i-preserved c =
    let inside : 2 * c.loop-i.i + 1 < length c.args.numbers.now = omega arith in
    let next = sides_go c.args.step c.loop-i.i c.args.numbers.now c.loop-i.sides.items c.index-numbers-i.result c.index-numbers-i-in-loop-i.result c.in-Ok.span inside c.index-numbers-i.is c.index-numbers-i-in-loop-i.is c.in-Ok.ensures c.loop-i.invariant.kept c.loop-i.invariant.same in
    record { kept = c.in-Ok-keep.ensures ∙ next.0; same = next.1 }
