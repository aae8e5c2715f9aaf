use Rattle.std.proofs.Common.{length, ap, ◌∙◌, to_z-of_z, arith}
use Rattle.property_tree.proofs.Lanes.{lane_is, lane_kept, one_of, same_pool}
use Rattle.property_tree.proofs.vectors.upper_of_process.Goals as goal

pub least_one_within-requires : goal.least_one_within-requires
least_one_within-requires g c =
    let pools = c.args.pools.now in
    let has = c.requires.1.1 in
    rw c.new-rows.ensures (
      record {
        links = c.requires.0.links;
        table = c.requires.0.table;
        size = c.guess.ensures.size ∙ ap length c.lane_mut-values.ensures.value ∙ (one_of pools.values.lanes _ has.values).1;
        places = ap length c.lane_mut-2.ensures.value ∙ (one_of pools.work.lanes _ has.work).1;
      },
      ap length c.lane_mut.ensures.value ∙ (one_of pools.picks.lanes _ has.picks).1,
    )

pub returns-clause-pools : goal.returns-clause-pools
returns-clause-pools g c =
    let pools = c.args.pools.now in
    let has = c.requires.1.1 in
    let call = c.least_one_within in
    record {
      values = lane_kept c.lanes_stand_alone.ensures.writes pools.values _ c.lane_mut-values.result.now call.new.lane has.values c.lane_mut-values.ensures.value (omega (arith, call.auto.lane, c.guess.ensures.size));
      allowed = same_pool pools.allowed;
      ranks = same_pool pools.ranks;
      picks = lane_kept c.lanes_stand_alone-2.ensures.writes pools.picks _ c.lane_mut.result.now call.new.picks has.picks c.lane_mut.ensures.value (omega (arith, call.auto.picks));
      work = lane_kept c.lanes_stand_alone-2.ensures.writes pools.work _ c.lane_mut-2.result.now call.new.work has.work c.lane_mut-2.ensures.value (omega (arith, call.auto.work));
    }

pub returns-clause-least : goal.returns-clause-least
returns-clause-least g c =
    let pools = c.args.pools.now in
    let has = c.requires.1.1 in
    let call = c.least_one_within in
    rw (
      lane_is c.lanes_stand_alone.ensures.writes pools.values _ c.lane_mut-values.result.now call.new.lane has.values c.lane_mut-values.ensures.value (omega (arith, call.auto.lane, c.guess.ensures.size)),
      lane_is c.lanes_stand_alone-2.ensures.writes pools.picks _ c.lane_mut.result.now call.new.picks has.picks c.lane_mut.ensures.value (omega (arith, call.auto.picks)),
    ) (rw (c.new-rows.ensures, to_z-of_z c.ranges.limit) at call.ensures)
