use Rattle.std.proofs.Common.{◌≡◌, ◌<◌, length, arith, rules, sym, ◌∙◌, ap₂, pos}
use Rattle.std.proofs.lemmas.List.{take_more_same}
use Rattle.std.proofs.lemmas.Option.{get_or_from_slice_get}
use Rattle.lift_model.proofs.shared.is_same.Goals as goal

pub loop-index-preserved : goal.loop-index-preserved
loop-index-preserved c =
    let left : c.loop-index.index < length c.args.left.now = omega (arith, c.loop-index-test.true, c.len-index-end.ensures.value) in
    let right : c.loop-index.index < length c.args.right.now = omega (arith, left, c.if-len.false, c.len.ensures.value, c.len-2.ensures.value) in
    let number : c.term-left_set.result.1 ≡ c.term-right_set.result.1 = search (rules, c.if-left_number-right_number.false) in
    let same : c.term-left_set.result ≡ c.term-right_set.result = ap₂ (λ a b. (a, b)) c.if-left_set-right_set.false number in
    take_more_same c.args.left.now c.args.right.now c.loop-index.index (0, pos 0) left right c.loop-index.invariant
    (get_or_from_slice_get c.args.left.now c.loop-index.index c.term-left_set.result (0, pos 0) c.term-left_set.ensures ∙ same ∙ sym (get_or_from_slice_get c.args.right.now c.loop-index.index c.term-right_set.result (0, pos 0) c.term-right_set.ensures))
