use Rattle.region_tree.proofs.Shapes.{lane_kept, pools_then, same_pool}
use Rattle.region_tree.proofs.finder.Finder.greatest_lower_above.Goals as goal

pub returns-clause-pools : goal.returns-clause-pools
returns-clause-pools g c =
    let pools = c.args.pools.now in
    let has = c.requires.1.1 in
    pools_then pools _ c.lower_from_values.new.pools
    (record {
      values = lane_kept c.lanes_stand_alone.ensures.writes pools.values _ c.lane_mut.result.now c.lower_above.new.lane has.values c.lane_mut.ensures.value c.lower_above.ensures.size;
      allowed = same_pool pools.allowed;
      ranks = same_pool pools.ranks;
      picks = same_pool pools.picks;
      work = same_pool pools.work;
    })
    c.lower_from_values.ensures.pools
