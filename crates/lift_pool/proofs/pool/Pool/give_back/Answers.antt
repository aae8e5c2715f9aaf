use Rattle.std.proofs.Common.{◌≡◌, ◌+◌, ◌-◌, List, ℕ, length, take, ◌∙◌, ap, rules, arith}
use Rattle.lift_pool.specs.Lanes.{PoolData, last_lane}
use Rattle.lift_pool.specs.Cuts.{cut, start}
use Rattle.lift_pool.proofs.Cutting.{start-before, dropped, front-is}
use Rattle.lift_pool.proofs.pool.Pool.give_back.Goals as goal

pub overflow_sub-len-2 : goal.overflow_sub-len-2
overflow_sub-len-2 g c =
    let count : c.len.result ≡ length c.self.inside.ends.items = search rules in
    let from : c.start_of-from.result ≡ start 0 c.self.inside.ends.items (length c.self.inside.ends.items - 1) = rw (c.deref.ensures.value, count) at c.start_of-from.ensures in
    let size : length c.self.inside.block.items ≡ c.len-2.result = search rules in
    omega (arith, size, start-before c.self.inside.ends.items (length c.self.inside.block.items) c.start_of-from.result c.self.invariant.ascend from)

pub invariant_of-self : goal.invariant_of-self
invariant_of-self g c =
    let count : c.len.result ≡ length c.self.inside.ends.items = search rules in
    let count3 : c.len-3.result ≡ length c.self.inside.ends.items = search rules in
    let from : c.start_of-from.result ≡ start 0 c.self.inside.ends.items (length c.self.inside.ends.items - 1) = rw (c.deref.ensures.value, count) at c.start_of-from.ensures in
    let size : length c.self.inside.block.items ≡ c.len-2.result = search rules in
    let ends = rw count3 at c.truncate-2.ensures.items in
    let all = dropped c.self.inside.ends.items c.truncate-2.new.self.items c.self.inside.block.items c.truncate.new.self.items c.args.self.now.lanes c.start_of-from.result (ap (λ p. p.lanes) c.self.view_is) c.requires c.self.invariant.ascend from ends c.truncate.ensures.items in
    record {
      ascend = all.0;
      words = omega (arith, all.2, all.3, size, c.self.invariant.words, c.truncate.ensures.capacity);
      lanes = omega (arith, all.4, c.self.invariant.lanes, c.truncate-2.ensures.capacity);
    }

pub returns : goal.returns
returns g c =
    let count : c.len.result ≡ length c.self.inside.ends.items = search rules in
    let count3 : c.len-3.result ≡ length c.self.inside.ends.items = search rules in
    let from : c.start_of-from.result ≡ start 0 c.self.inside.ends.items (length c.self.inside.ends.items - 1) = rw (c.deref.ensures.value, count) at c.start_of-from.ensures in
    let size : length c.self.inside.block.items ≡ c.len-2.result = search rules in
    let ends = rw count3 at c.truncate-2.ensures.items in
    let all = dropped c.self.inside.ends.items c.truncate-2.new.self.items c.self.inside.block.items c.truncate.new.self.items c.args.self.now.lanes c.start_of-from.result (ap (λ p. p.lanes) c.self.view_is) c.requires c.self.invariant.ascend from ends c.truncate.ensures.items in
    let lane = last_lane c.args.self.now.lanes in
    let words : c.len-2.result - c.start_of-from.result ≡ length lane = omega (arith, all.3, size) in
    let lanes : cut 0 c.truncate-2.new.self.items c.truncate.new.self.items ≡ take (length c.args.self.now.lanes - 1) c.args.self.now.lanes = front-is c.args.self.now.lanes _ lane all.1 in
    ap (λ (l : List (List g.row.T.Denot)). let p : PoolData g.row.T.Denot = record { lanes = l; spare = c.self.inside.spare + (c.len-2.result - c.start_of-from.result); spare_lanes = c.self.inside.spare_lanes + 1 } in p) lanes
    ∙ ap (λ (n : ℕ). let p : PoolData g.row.T.Denot = record { lanes = take (length c.args.self.now.lanes - 1) c.args.self.now.lanes; spare = c.self.inside.spare + n; spare_lanes = c.self.inside.spare_lanes + 1 } in p) words
    ∙ ap (λ (q : PoolData g.row.T.Denot). let p : PoolData g.row.T.Denot = record { lanes = take (length c.args.self.now.lanes - 1) c.args.self.now.lanes; spare = q.spare + length lane; spare_lanes = q.spare_lanes + 1 } in p) c.self.view_is
