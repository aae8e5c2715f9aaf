use Rattle.std.proofs.Common.{length, ap, ◌∙◌, to_z-of_z, arith}
use Rattle.region_tree.proofs.Shapes.{lane_is, lane_kept, one_of, same_pool}
use Rattle.region_tree.proofs.finder.Finder.least_upper_within.Goals as goal

pub least_upper-requires : goal.least_upper-requires
least_upper-requires g c =
    let pools = c.args.pools.now in
    let has = c.requires.1.1 in (
      record {
        links = c.requires.0.links;
        table = c.requires.0.table;
        size = ap length c.lane_mut.ensures.value ∙ (one_of pools.values.lanes _ has.values).1;
        places = ap length c.lane_mut-2.ensures.value ∙ (one_of pools.work.lanes _ has.work).1;
      },
      c.requires.1.0,
    )

pub returns-clause-pools : goal.returns-clause-pools
returns-clause-pools g c =
    let pools = c.args.pools.now in
    let has = c.requires.1.1 in
    let call = c.least_upper in
    record {
      values = lane_kept c.lanes_stand_alone.ensures.writes pools.values _ c.lane_mut.result.now call.new.lane has.values c.lane_mut.ensures.value (omega (arith, call.auto.lane));
      allowed = same_pool pools.allowed;
      ranks = same_pool pools.ranks;
      picks = same_pool pools.picks;
      work = lane_kept c.lanes_stand_alone-2.ensures.writes pools.work _ c.lane_mut-2.result.now call.new.work has.work c.lane_mut-2.ensures.value (omega (arith, call.auto.work));
    }

pub returns-clause-least : goal.returns-clause-least
returns-clause-least g c =
    let pools = c.args.pools.now in
    let has = c.requires.1.1 in
    let call = c.least_upper in
    rw (lane_is c.lanes_stand_alone.ensures.writes pools.values _ c.lane_mut.result.now call.new.lane has.values c.lane_mut.ensures.value (omega (arith, call.auto.lane)))
    (rw (to_z-of_z c.ranges.limit) at call.ensures.least)
