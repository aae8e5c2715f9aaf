use Rattle.std.proofs.Common.{◌≡◌, ◌<◌, length, ◌∙◌, ap, sym, rules, arith, vec_len, suc, refl}
use Rattle.lift_pool.specs.Lanes.{pool_written}
use Rattle.lift_pool.specs.Cuts.{start}
use Rattle.lift_pool.proofs.Cutting.{in-range, lane-is, start-is, start-next, start-top, lane-written}
use Rattle.lift_pool.proofs.pool.Pool.lane_mut.Goals as goal

pub start_of-from-requires : goal.start_of-from-requires
start_of-from-requires g c =
    let within = in-range c.self.inside.ends.items c.self.inside.block.items c.args.self.now.lanes c.args.i (ap (λ p. p.lanes) c.self.view_is) c.requires in
    rw c.deref.ensures.value (omega arith)

pub index-to-requires : goal.index-to-requires
index-to-requires g c =
    let within : c.args.i < length c.self.inside.ends.items = in-range c.self.inside.ends.items c.self.inside.block.items c.args.self.now.lanes c.args.i (ap (λ p. p.lanes) c.self.view_is) c.requires in
    search rules

pub slice_mut-requires-clause-start_le_end : goal.slice_mut-requires-clause-start_le_end
slice_mut-requires-clause-start_le_end g c =
    let within : c.args.i < length c.self.inside.ends.items = in-range c.self.inside.ends.items c.self.inside.block.items c.args.self.now.lanes c.args.i (ap (λ p. p.lanes) c.self.view_is) c.requires in
    let from : c.start_of-from.result ≡ start 0 c.self.inside.ends.items c.args.i = rw c.deref.ensures.value at c.start_of-from.ensures in
    let to : c.index-to.result.now ≡ start 0 c.self.inside.ends.items (suc c.args.i) = c.index-to.ensures ∙ start-is 0 c.self.inside.ends.items c.args.i c.index-to.result.now within in
    omega (arith, start-next 0 c.self.inside.ends.items (length c.self.inside.block.items) c.args.i c.self.invariant.ascend)

pub slice_mut-requires-clause-in_bounds : goal.slice_mut-requires-clause-in_bounds
slice_mut-requires-clause-in_bounds g c =
    let within : c.args.i < length c.self.inside.ends.items = in-range c.self.inside.ends.items c.self.inside.block.items c.args.self.now.lanes c.args.i (ap (λ p. p.lanes) c.self.view_is) c.requires in
    let to : c.index-to.result.now ≡ start 0 c.self.inside.ends.items (suc c.args.i) = c.index-to.ensures ∙ start-is 0 c.self.inside.ends.items c.args.i c.index-to.result.now within in
    let size : length c.self.inside.block.items ≡ vec_len c.self.inside.block = search rules in
    omega (arith, start-top 0 c.self.inside.ends.items (length c.self.inside.block.items) (suc c.args.i) c.self.invariant.ascend)

pub returns : goal.returns
returns g c =
    let within : c.args.i < length c.self.inside.ends.items = in-range c.self.inside.ends.items c.self.inside.block.items c.args.self.now.lanes c.args.i (ap (λ p. p.lanes) c.self.view_is) c.requires in
    let from : c.start_of-from.result ≡ start 0 c.self.inside.ends.items c.args.i = rw c.deref.ensures.value at c.start_of-from.ensures in
    let size : length c.self.inside.block.items ≡ vec_len c.self.inside.block = search rules in
    ((refl, λ w. lane-written c.self.inside.ends.items c.self.inside.block.items w c.args.i c.start_of-from.result _ c.self.inside.spare c.self.inside.spare_lanes from (sym size) c.self.invariant.ascend ∙ ap (λ p. pool_written p c.args.i w) c.self.view_is), record { writes_back = tt; value = c.slice_mut.ensures.value ∙ lane-is c.self.inside.ends.items c.self.inside.block.items c.args.self.now.lanes c.args.i c.start_of-from.result c.index-to.result.now (ap (λ p. p.lanes) c.self.view_is) c.requires from c.index-to.ensures })
