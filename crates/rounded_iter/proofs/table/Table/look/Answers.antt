use Rattle.std.proofs.Common.{rules, arith, SFits, w64, to_z-of_z, slice_index_or, ◌≡◌, ◌≤ℤ◌, ◌<ℤ◌}
use Rattle.lift_poly.proofs.Ring.{linear}
use Rattle.corner_lift.specs.Case.{number}
use Rattle.rounded_iter.specs.declared.steering.Component.{Component}
use Rattle.rounded_iter.specs.Held.{beside}
use Rattle.rounded_iter.proofs.Solving.{laws_of}
use Rattle.rounded_iter.proofs.Holding.{risen_in, restored_in, kept_under}
use Rattle.rounded_iter.proofs.table.Table.look.Goals as goal

pub try_held-beside-requires : goal.try_held-beside-requires
try_held-beside-requires g c =
    let t = c.args.self.now in
    let n = c.in-Some.number in
    let f = slice_index_or t.links.order c.args.component.held 0 in
    let fits : SFits w64 n = search rules in
    let high : SFits w64 c.args.search.now.high = search rules in
    let at : slice_index_or c.order.result.now c.args.component.held 0 ≡ f = search rules in
    let own = c.rows_at_corners.ensures.numbers t.case c.args.lane.now f c.requires.climb.below.numbers in
    let found : number c.args.lane.now (slice_index_or c.order.result.now c.args.component.held 0) ≤ℤ n = search rules in
    let from : number c.args.lane.now f ≤ℤ n = rw at at found in
    let under : n ≤ℤ c.args.search.now.high = search rules in
    rw (to_z-of_z fits, to_z-of_z high)
    (c.requires.climb, (c.requires.can, (from, (record { range = (omega (arith, linear, own.0, from), under, c.requires.is.range.1); under = c.requires.is.under }, (c.requires.inside, c.requires.places.1)))))

pub returns-then-is_past-clause-raised : goal.returns-then-is_past-clause-raised
returns-then-is_past-clause-raised g c =
    let t = c.args.self.now in
    let n = c.in-Some.number in
    let f = slice_index_or t.links.order c.args.component.held 0 in
    let p : Component = record { low = c.args.component.low; high = c.args.component.high; held = c.args.component.held; number = n } in
    let fits : SFits w64 n = search rules in
    let at : slice_index_or c.order.result.now c.args.component.held 0 ≡ f = search rules in
    let found : number c.args.lane.now (slice_index_or c.order.result.now c.args.component.held 0) ≤ℤ n = search rules in
    let from : number c.args.lane.now f ≤ℤ n = rw at at found in
    let risen : n <ℤ number c.try_held-beside.new.lane (slice_index_or c.order.result.now c.args.component.held 0) = search rules in
    let rose : n <ℤ number c.try_held-beside.new.lane f = rw at at risen in
    risen_in (laws_of c.rows_at_corners.ensures.parameters c.rows_at_corners.ensures.numbers c.rows_at_corners.ensures.range c.rows_at_corners.ensures.rise c.corners_bound_weights.ensures.sum) t g.run c.requires.climb.read p c.requires.can c.args.lane.now c.try_held-beside.new.lane c.requires.climb.below from (rw (to_z-of_z fits) at c.try_held-beside.ensures) rose

pub returns-then-lane-f-clause-raised : goal.returns-then-lane-f-clause-raised
returns-then-lane-f-clause-raised g c =
    let t = c.args.self.now in
    let n = c.in-Some.number in
    let f = slice_index_or t.links.order c.args.component.held 0 in
    let p : Component = record { low = c.args.component.low; high = c.args.component.high; held = c.args.component.held; number = n } in
    let fits : SFits w64 n = search rules in
    let at : slice_index_or c.order.result.now c.args.component.held 0 ≡ f = search rules in
    let found : number c.args.lane.now (slice_index_or c.order.result.now c.args.component.held 0) ≤ℤ n = search rules in
    let from : number c.args.lane.now f ≤ℤ n = rw at at found in
    let risen : n <ℤ number c.try_held-beside.new.lane (slice_index_or c.order.result.now c.args.component.held 0) = search rules in
    let rose : n <ℤ number c.try_held-beside.new.lane f = rw at at risen in
    risen_in (laws_of c.rows_at_corners.ensures.parameters c.rows_at_corners.ensures.numbers c.rows_at_corners.ensures.range c.rows_at_corners.ensures.rise c.corners_bound_weights.ensures.sum) t g.run c.requires.climb.read p c.requires.can c.args.lane.now c.try_held-beside.new.lane c.requires.climb.below from (rw (to_z-of_z fits) at c.try_held-beside.ensures) rose

pub returns-then-is_settled-clause-raised : goal.returns-then-is_settled-clause-raised
returns-then-is_settled-clause-raised g c =
    restored_in (laws_of c.rows_at_corners.ensures.parameters c.rows_at_corners.ensures.numbers c.rows_at_corners.ensures.range c.rows_at_corners.ensures.rise c.corners_bound_weights.ensures.sum) c.args.self.now g.run c.requires.climb.read c.args.component c.args.lane.now c.try_held-beside.new.lane c.restore.new.lane c.args.search.now.base c.args.component.low c.args.component.high (omega (arith, c.restore.auto.lane, c.try_held-beside.auto.lane)) c.requires.climb.below c.requires.is.base c.try_held-beside.ensures.outside c.restore.ensures

pub returns-else-is_settled-clause-raised : goal.returns-else-is_settled-clause-raised
returns-else-is_settled-clause-raised g c =
    restored_in (laws_of c.rows_at_corners.ensures.parameters c.rows_at_corners.ensures.numbers c.rows_at_corners.ensures.range c.rows_at_corners.ensures.rise c.corners_bound_weights.ensures.sum) c.args.self.now g.run c.requires.climb.read c.args.component c.args.lane.now c.try_held-beside.new.lane c.restore.new.lane c.args.search.now.base c.args.component.low c.args.component.high (omega (arith, c.restore.auto.lane, c.try_held-beside.auto.lane)) c.requires.climb.below c.requires.is.base c.try_held-beside.ensures.outside c.restore.ensures

pub returns-then-is_settled-clause-search : goal.returns-then-is_settled-clause-search
returns-then-is_settled-clause-search g c =
    let t = c.args.self.now in
    let n = c.in-Some.number in
    let f = slice_index_or t.links.order c.args.component.held 0 in
    let p : Component = record { low = c.args.component.low; high = c.args.component.high; held = c.args.component.held; number = n } in
    let fits : SFits w64 n = search rules in
    let high : SFits w64 c.args.search.now.high = search rules in
    let at : slice_index_or c.order.result.now c.args.component.held 0 ≡ f = search rules in
    let own = c.rows_at_corners.ensures.numbers t.case c.args.lane.now f c.requires.climb.below.numbers in
    let found : number c.args.lane.now (slice_index_or c.order.result.now c.args.component.held 0) ≤ℤ n = search rules in
    let from : number c.args.lane.now f ≤ℤ n = rw at at found in
    let under : n ≤ℤ c.args.search.now.high = search rules in
    let raised = rw (to_z-of_z fits) at c.try_held-beside.ensures in
    rw (to_z-of_z fits)
    (λ e. record {
      base = c.restore.ensures.inside;
      range = (omega (arith, linear, own.0, from), omega (arith, linear, under, c.requires.is.range.1));
      under = kept_under (laws_of c.rows_at_corners.ensures.parameters c.rows_at_corners.ensures.numbers c.rows_at_corners.ensures.range c.rows_at_corners.ensures.rise c.corners_bound_weights.ensures.sum) t (beside t g.run p) c.requires.climb.read c.args.component.low c.args.component.high c.try_held-beside.new.lane c.keep-2.new.kept raised.below c.keep-2.ensures;
    })
