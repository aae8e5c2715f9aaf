use Rattle.std.proofs.Common.{rules, ◌≡◌, ◌<◌, ◌≤◌, length, vec_len, vec_capacity, get_or, ◌∙◌, refl}
use Rattle.std.proofs.lemmas.List.{get_or_append_left}
use Rattle.lift_pool.proofs.Cutting.{grown}
use Rattle.lift_pool.proofs.pool.append_copy.Goals as goal

pub loop-i-preserved : goal.loop-i-preserved
loop-i-preserved g c =
    let old = c.args.block.now.items in
    let size : length old ≡ vec_len c.args.block.now = search rules in
    let within : c.loop-i.i < length old = search rules in
    let from : c.args.from ≤ c.loop-i.i = search rules in
    let value : c.index-value.result.now ≡ get_or old c.loop-i.i c.index-value.result.now =
    c.index-value.ensures ∙ rw (c.loop-i.invariant.0, get_or_append_left old _ c.index-value.result.now c.loop-i.i within) refl in
    let room : vec_len c.loop-i.block < vec_capacity c.loop-i.block = search rules in
    let pushed = c.push.ensures.succeeds room in
    let items = rw pushed at c.push.ensures.items in
    let len = rw pushed at c.push.ensures.len in
    (items ∙ grown old c.loop-i.block.items c.args.from c.loop-i.i c.index-value.result.now from within c.loop-i.invariant.0 value, search rules, search rules)
