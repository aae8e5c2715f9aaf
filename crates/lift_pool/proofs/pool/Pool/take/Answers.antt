use Rattle.std.proofs.Common.{◌≡◌, ◌≤◌, ◌-◌, ◌∷◌, ◌++◌, [], List, ℕ, length, replicate, ◌∙◌, ap, sym, rules, arith, length-append}
use Rattle.std.proofs.lemmas.List.{length-replicate}
use Rattle.lift_pool.specs.Lanes.{PoolData, pool_with}
use Rattle.lift_pool.specs.Cuts.{cut}
use Rattle.lift_pool.proofs.Cutting.{cut-taken, ascend-taken}
use Rattle.lift_pool.proofs.pool.Pool.take.Goals as goal

pub invariant_of-self : goal.invariant_of-self
invariant_of-self g c =
    let end : c.len.result ≡ length c.append.new.block.items = search rules in
    let more = length-replicate c.args.len c.args.fill in
    let words = ap length c.append.ensures.items ∙ length-append c.self.inside.block.items (replicate c.args.len c.args.fill) in
    let lanes = ap length c.append_end.ensures.items ∙ length-append c.self.inside.ends.items (c.len.result ∷ []) in
    let spare : c.args.len ≤ c.self.inside.spare = search rules in
    let spare_lanes : 1 ≤ c.self.inside.spare_lanes = search rules in
    record {
      ascend = ascend-taken c.self.inside.ends.items c.append_end.new.ends.items c.self.inside.block.items c.append.new.block.items (replicate c.args.len c.args.fill) c.len.result c.self.invariant.ascend c.append.ensures.items end c.append_end.ensures.items;
      words = omega (arith, words, more, c.self.invariant.words, c.append.ensures.capacity, spare);
      lanes = omega (arith, lanes, c.self.invariant.lanes, c.append_end.ensures.capacity, spare_lanes);
    }

pub returns : goal.returns
returns g c =
    let end : c.len.result ≡ length c.append.new.block.items = search rules in
    let lanes = cut-taken c.self.inside.ends.items c.append_end.new.ends.items c.self.inside.block.items c.append.new.block.items (replicate c.args.len c.args.fill) c.len.result c.self.invariant.ascend c.append.ensures.items end c.append_end.ensures.items in
    let size : c.args.len ≡ length (replicate c.args.len c.args.fill) = sym (length-replicate c.args.len c.args.fill) in
    ap (λ (l : List (List g.row.T.Denot)). let p : PoolData g.row.T.Denot = record { lanes = l; spare = c.self.inside.spare - c.args.len; spare_lanes = c.self.inside.spare_lanes - 1 } in p) lanes
    ∙ ap (λ (n : ℕ). let p : PoolData g.row.T.Denot = record { lanes = cut 0 c.self.inside.ends.items c.self.inside.block.items ++ replicate c.args.len c.args.fill ∷ []; spare = c.self.inside.spare - n; spare_lanes = c.self.inside.spare_lanes - 1 } in p) size
    ∙ ap (λ p. pool_with p (replicate c.args.len c.args.fill)) c.self.view_is
