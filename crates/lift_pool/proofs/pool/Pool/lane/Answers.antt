use Rattle.std.proofs.Common.{◌≡◌, ◌<◌, length, ◌∙◌, ap, rules, arith, suc}
use Rattle.lift_pool.specs.Cuts.{start}
use Rattle.lift_pool.proofs.Cutting.{in-range, lane-is, start-is, start-next, start-top}
use Rattle.lift_pool.proofs.pool.Pool.lane.Goals as goal

pub start_of-requires : goal.start_of-requires
start_of-requires g c =
    let within = in-range c.self.inside.ends.items c.self.inside.block.items c.args.self.now.lanes c.args.i (ap (λ p. p.lanes) c.self.view_is) c.requires in
    rw c.deref-2.ensures.value (omega arith)

pub index-requires : goal.index-requires
index-requires g c =
    let within : c.args.i < length c.self.inside.ends.items = in-range c.self.inside.ends.items c.self.inside.block.items c.args.self.now.lanes c.args.i (ap (λ p. p.lanes) c.self.view_is) c.requires in
    search rules

pub part-requires-clause-order : goal.part-requires-clause-order
part-requires-clause-order g c =
    let within : c.args.i < length c.self.inside.ends.items = in-range c.self.inside.ends.items c.self.inside.block.items c.args.self.now.lanes c.args.i (ap (λ p. p.lanes) c.self.view_is) c.requires in
    let from : c.start_of.result ≡ start 0 c.self.inside.ends.items c.args.i = rw c.deref-2.ensures.value at c.start_of.ensures in
    let to : c.index.result.now ≡ start 0 c.self.inside.ends.items (suc c.args.i) = c.index.ensures ∙ start-is 0 c.self.inside.ends.items c.args.i c.index.result.now within in
    omega (arith, start-next 0 c.self.inside.ends.items (length c.self.inside.block.items) c.args.i c.self.invariant.ascend)

pub part-requires-clause-end : goal.part-requires-clause-end
part-requires-clause-end g c =
    let within : c.args.i < length c.self.inside.ends.items = in-range c.self.inside.ends.items c.self.inside.block.items c.args.self.now.lanes c.args.i (ap (λ p. p.lanes) c.self.view_is) c.requires in
    let to : c.index.result.now ≡ start 0 c.self.inside.ends.items (suc c.args.i) = c.index.ensures ∙ start-is 0 c.self.inside.ends.items c.args.i c.index.result.now within in
    rw c.deref.ensures.value (omega (arith, start-top 0 c.self.inside.ends.items (length c.self.inside.block.items) (suc c.args.i) c.self.invariant.ascend))

pub returns : goal.returns
returns g c =
    let from : c.start_of.result ≡ start 0 c.self.inside.ends.items c.args.i = rw c.deref-2.ensures.value at c.start_of.ensures in
    rw c.deref.ensures.value at c.part.ensures ∙ lane-is c.self.inside.ends.items c.self.inside.block.items c.args.self.now.lanes c.args.i c.start_of.result c.index.result.now (ap (λ p. p.lanes) c.self.view_is) c.requires from c.index.ensures
