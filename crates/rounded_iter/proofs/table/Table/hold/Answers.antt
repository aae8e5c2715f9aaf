use Rattle.std.proofs.Common.{rules, arith, pos, refl}
use Rattle.rounded_iter.specs.declared.steering.Component.{Component}
use Rattle.rounded_iter.proofs.Solving.{laws_of}
use Rattle.rounded_iter.proofs.Holding.{raised_none, raised_then, search_first}
use Rattle.rounded_iter.proofs.table.Table.hold.Goals as goal

pub loop-init : goal.loop-init
loop-init g c =
    let t = c.args.self.now in
    let p : Component = record { low = c.args.component.low; high = c.args.component.high; held = c.in-Some.held; number = pos 0 } in
    record {
      raised = raised_none t g.run p.low p.high c.args.lane.now c.requires.0.below;
      search = search_first (laws_of c.rows_at_corners.ensures.parameters c.rows_at_corners.ensures.numbers c.rows_at_corners.ensures.range c.rows_at_corners.ensures.rise c.corners_bound_weights.ensures.sum) t g.run c.requires.0.read p c.args.lane.now _ c.requires.0.below c.keep.ensures c.keep-2.ensures (search rules);
      places = search rules;
    }

pub look-requires : goal.look-requires
look-requires g c = record {
  climb = record { read = c.requires.0.read; below = c.loop.invariant.raised.below; places = omega (arith, c.loop.auto.work, c.requires.0.places) };
  can = c.in-Some.ensures;
  inside = c.requires.1;
  places = c.loop.invariant.places;
  is = c.loop.invariant.search;
}

pub returns-in-Some-look : goal.returns-in-Some-look
returns-in-Some-look g c = raised_then c.args.self.now g.run c.args.component.low c.args.component.high c.args.lane.now c.loop.lane c.look.new.lane c.loop.invariant.raised c.look.ensures.raised

pub loop-preserved : goal.loop-preserved
loop-preserved g c = record {
  raised = raised_then c.args.self.now g.run c.args.component.low c.args.component.high c.args.lane.now c.loop.lane c.look.new.lane c.loop.invariant.raised c.look.ensures.raised;
  search = c.in_default-look.ensures.search refl;
  places = (omega (arith, c.look.ensures.places.0, c.loop.invariant.places.0), omega (arith, c.look.ensures.places.1, c.loop.invariant.places.1));
}
