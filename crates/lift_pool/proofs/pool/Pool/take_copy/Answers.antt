use Rattle.std.proofs.Common.{◌≡◌, ◌-◌, ◌∷◌, ◌++◌, [], List, ℕ, length, ◌∙◌, ap, rules, arith, vec_len, refl, length-append}
use Rattle.std.proofs.lemmas.List.Edits.{length-between}
use Rattle.lift_pool.specs.Lanes.{PoolData, pool_with, last_lane}
use Rattle.lift_pool.specs.Cuts.{cut, start}
use Rattle.lift_pool.proofs.Cutting.{cut-taken, ascend-taken, last-is, start-before}
use Rattle.lift_pool.proofs.pool.Pool.take_copy.Goals as goal

pub overflow_sub-len-2 : goal.overflow_sub-len-2
overflow_sub-len-2 g c =
    let count : c.len.result ≡ length c.self.inside.ends.items = search rules in
    let from : c.start_of-from.result ≡ start 0 c.self.inside.ends.items (length c.self.inside.ends.items - 1) = rw (c.deref.ensures.value, count) at c.start_of-from.ensures in
    let size : length c.self.inside.block.items ≡ c.len-2.result = search rules in
    omega (arith, size, start-before c.self.inside.ends.items (length c.self.inside.block.items) c.start_of-from.result c.self.invariant.ascend from)

pub append_copy-requires-clause-from : goal.append_copy-requires-clause-from
append_copy-requires-clause-from g c =
    let count : c.len.result ≡ length c.self.inside.ends.items = search rules in
    let from : c.start_of-from.result ≡ start 0 c.self.inside.ends.items (length c.self.inside.ends.items - 1) = rw (c.deref.ensures.value, count) at c.start_of-from.ensures in
    let size : length c.self.inside.block.items ≡ vec_len c.self.inside.block = search rules in
    omega (arith, size, start-before c.self.inside.ends.items (length c.self.inside.block.items) c.start_of-from.result c.self.invariant.ascend from)

pub append_copy-requires-clause-room : goal.append_copy-requires-clause-room
append_copy-requires-clause-room g c =
    let count : c.len.result ≡ length c.self.inside.ends.items = search rules in
    let from : c.start_of-from.result ≡ start 0 c.self.inside.ends.items (length c.self.inside.ends.items - 1) = rw (c.deref.ensures.value, count) at c.start_of-from.ensures in
    let size : length c.self.inside.block.items ≡ vec_len c.self.inside.block = search rules in
    let last = last-is c.self.inside.ends.items c.self.inside.block.items c.args.self.now.lanes c.start_of-from.result (length c.self.inside.block.items) (ap (λ p. p.lanes) c.self.view_is) c.requires.some c.self.invariant.ascend from refl in
    let long = length-between c.self.inside.block.items c.start_of-from.result (length c.self.inside.block.items) (omega arith) in
    let spare = c.requires.spare in
    let same = ap (λ p. p.spare) c.self.view_is in
    omega (arith, size, ap length last, long, spare, same, c.self.invariant.words)

pub overflow_sub-self : goal.overflow_sub-self
overflow_sub-self g c =
    let count : c.len.result ≡ length c.self.inside.ends.items = search rules in
    let from : c.start_of-from.result ≡ start 0 c.self.inside.ends.items (length c.self.inside.ends.items - 1) = rw (c.deref.ensures.value, count) at c.start_of-from.ensures in
    let size : length c.self.inside.block.items ≡ c.len-2.result = search rules in
    let last = last-is c.self.inside.ends.items c.self.inside.block.items c.args.self.now.lanes c.start_of-from.result (length c.self.inside.block.items) (ap (λ p. p.lanes) c.self.view_is) c.requires.some c.self.invariant.ascend from refl in
    let long = length-between c.self.inside.block.items c.start_of-from.result (length c.self.inside.block.items) (omega arith) in
    omega (arith, size, ap length last, long, c.requires.spare, ap (λ p. p.spare) c.self.view_is)

pub invariant_of-self : goal.invariant_of-self
invariant_of-self g c =
    let count : c.len.result ≡ length c.self.inside.ends.items = search rules in
    let from : c.start_of-from.result ≡ start 0 c.self.inside.ends.items (length c.self.inside.ends.items - 1) = rw (c.deref.ensures.value, count) at c.start_of-from.ensures in
    let size : vec_len c.self.inside.block ≡ length c.self.inside.block.items = search rules in
    let len2 : c.len-2.result ≡ length c.self.inside.block.items = search rules in
    let last = last-is c.self.inside.ends.items c.self.inside.block.items c.args.self.now.lanes c.start_of-from.result (length c.self.inside.block.items) (ap (λ p. p.lanes) c.self.view_is) c.requires.some c.self.invariant.ascend from refl in
    let long = length-between c.self.inside.block.items c.start_of-from.result (length c.self.inside.block.items) (omega arith) in
    let items = rw (size, last) at c.append_copy.ensures.items in
    let end : c.len-3.result ≡ length c.append_copy.new.block.items = search rules in
    let more = last_lane c.args.self.now.lanes in
    let words = ap length items ∙ length-append c.self.inside.block.items more in
    let lanes = ap length c.append_end.ensures.items ∙ length-append c.self.inside.ends.items (c.len-3.result ∷ []) in
    record {
      ascend = ascend-taken c.self.inside.ends.items c.append_end.new.ends.items c.self.inside.block.items c.append_copy.new.block.items more c.len-3.result c.self.invariant.ascend items end c.append_end.ensures.items;
      words = omega (arith, words, ap length last, long, len2, c.self.invariant.words, c.append_copy.ensures.capacity, c.requires.spare, ap (λ p. p.spare) c.self.view_is);
      lanes = omega (arith, lanes, c.self.invariant.lanes, c.append_end.ensures.capacity, c.requires.spare_lanes, ap (λ p. p.spare_lanes) c.self.view_is);
    }

pub returns : goal.returns
returns g c =
    let count : c.len.result ≡ length c.self.inside.ends.items = search rules in
    let from : c.start_of-from.result ≡ start 0 c.self.inside.ends.items (length c.self.inside.ends.items - 1) = rw (c.deref.ensures.value, count) at c.start_of-from.ensures in
    let size : vec_len c.self.inside.block ≡ length c.self.inside.block.items = search rules in
    let len2 : c.len-2.result ≡ length c.self.inside.block.items = search rules in
    let last = last-is c.self.inside.ends.items c.self.inside.block.items c.args.self.now.lanes c.start_of-from.result (length c.self.inside.block.items) (ap (λ p. p.lanes) c.self.view_is) c.requires.some c.self.invariant.ascend from refl in
    let long = length-between c.self.inside.block.items c.start_of-from.result (length c.self.inside.block.items) (omega arith) in
    let items = rw (size, last) at c.append_copy.ensures.items in
    let end : c.len-3.result ≡ length c.append_copy.new.block.items = search rules in
    let more = last_lane c.args.self.now.lanes in
    let lanes = cut-taken c.self.inside.ends.items c.append_end.new.ends.items c.self.inside.block.items c.append_copy.new.block.items more c.len-3.result c.self.invariant.ascend items end c.append_end.ensures.items in
    let words : c.len-2.result - c.start_of-from.result ≡ length more = omega (arith, ap length last, long, len2) in
    ap (λ (l : List (List g.row.T.Denot)). let p : PoolData g.row.T.Denot = record { lanes = l; spare = c.self.inside.spare - (c.len-2.result - c.start_of-from.result); spare_lanes = c.self.inside.spare_lanes - 1 } in p) lanes
    ∙ ap (λ (n : ℕ). let p : PoolData g.row.T.Denot = record { lanes = cut 0 c.self.inside.ends.items c.self.inside.block.items ++ more ∷ []; spare = c.self.inside.spare - n; spare_lanes = c.self.inside.spare_lanes - 1 } in p) words
    ∙ ap (λ p. pool_with p more) c.self.view_is
